use Rattle.std.proofs.Common.{◌≡◌}
use Rattle.local_cache.specs.Reading.{forest_of}
use Rattle.local_cache.specs.Whole.{IsWhole, SameCaches}
use Rattle.residency.specs.Between.{Between, RightStore}
use Rattle.residency.specs.Causes.{Later, Traffic}
use Rattle.residency.specs.declared.store.Store.{Store}
use Rattle.fault_path.specs.Faults.{SameForest}
use Rattle.segment_ops.specs.Access.{AllowsBefore, GrantsBefore, IsGranted}
use Rattle.segment_ops.proofs.access.write_access.Given as goal

abbrev pub invariant-loop-number : goal.invariant-loop-number
invariant-loop-number g l =
    let M = g.M.Mapper in
    record {
      right : (s : Store) → RightStore M l.fn.mapper l.fn.caches s → RightStore M l.mapper l.caches s;
      whole : IsWhole l.caches;
      sizes : SameCaches l.fn.caches l.caches;
      grants : GrantsBefore l.range l.number l.fn.caches l.caches;
      allows : AllowsBefore l.range l.number (M.held l.fn.mapper) l.segment;
      nodes : forest_of l.caches ≡ forest_of l.fn.caches;
      forest : (s : Store) → RightStore M l.fn.mapper l.fn.caches s → Between SameForest M l.fn.mapper l.fn.caches s l.mapper l.caches s;
      held : M.held l.mapper ≡ M.held l.fn.mapper;
      given : M.given l.mapper ≡ M.given l.fn.mapper;
      page_bytes : M.page_bytes l.mapper ≡ M.page_bytes l.fn.mapper;
      later : Later (M.counts l.fn.mapper) (M.counts l.mapper);
      traffic : Traffic 0 0 (M.counts l.fn.mapper) (M.counts l.mapper);
      idle : IsGranted l.fn.caches l.range → (l.caches ≡ l.fn.caches) × (l.mapper ≡ l.fn.mapper);
    }
