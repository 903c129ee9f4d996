use Rattle.std.proofs.Common.{◌≡◌, ◌-◌}
use Rattle.vm_ids.specs.Forest.Commands.{lock, page_names}
use Rattle.residency.specs.Between.{world_at}
use Rattle.residency.specs.StoreForest.{store_forest}
use Rattle.residency.specs.World.{World}
use Rattle.pvm_core.specs.Holding.{HoldsLocked, LocksMore, ReadsAlike}
use Rattle.pvm_core.specs.Translated.{KeepsTranslations}
use Rattle.pvm_core.proofs.Locking.Extents.{extent}
use Rattle.pvm_core.proofs.page_locks.hold_pages.Given as goal

abbrev pub invariant-loop-number : goal.invariant-loop-number
invariant-loop-number g l =
    let M = g.M.Mapper in
    let old : World = world_at M l.fn.mapper l.fn.caches l.fn.store in
    let now : World = world_at M l.mapper l.caches l.store in
    record {
      alike : ReadsAlike old now (M.counts l.fn.mapper) (M.counts l.mapper);
      held : HoldsLocked l.caches l.store;
      locks : LocksMore (extent l.range.cache l.range.first.0 (l.number - l.range.first.0)) l.fn.caches l.caches;
      owned : store_forest now ≡ lock (page_names l.range.cache l.range.first.0 (l.number - l.range.first.0)) (store_forest old);
      translated : KeepsTranslations l.fn.caches l.caches l.fn.store l.store;
    }
