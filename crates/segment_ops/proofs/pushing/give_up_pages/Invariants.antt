use Rattle.std.proofs.Common.{◌≡◌, ◌+◌, ◌-◌, ◌≤◌}
use Rattle.residency.specs.Between.{world_at}
use Rattle.residency.specs.Causes.{Later, Traffic}
use Rattle.residency.specs.World.{Still, World}
use Rattle.residency.specs.Translating.{Drops}
use Rattle.segment_ops.specs.Synced.{AreLoose, AreOut, AreSynced}
use Rattle.fault_path.specs.Translating.{Nobody}
use Rattle.segment_ops.proofs.pushing.give_up_pages.Given as goal

abbrev pub invariant-loop-page : goal.invariant-loop-page
invariant-loop-page g l =
    let M = g.M.Mapper in
    let old : World = world_at M l.fn.mapper l.fn.caches l.fn.store in
    let now : World = world_at M l.mapper l.caches l.store in
    record {
      first : l.range.first.0 ≤ l.page;
      end : l.page ≤ l.range.first.0 + l.range.pages;
      still : Still old now;
      held : M.held l.mapper ≡ M.held l.fn.mapper;
      pinned : l.store.frames.pinned ≡ l.fn.store.frames.pinned;
      later : Later (M.counts l.fn.mapper) (M.counts l.mapper);
      traffic : Traffic 0 0 (M.counts l.fn.mapper) (M.counts l.mapper);
      synced : AreSynced l.range (l.range.first.0 + l.range.pages) now;
      loose : AreLoose l.range now;
      drops : Drops Nobody l.fn.caches l.fn.store l.caches l.store;
      out : AreOut (record l.range { pages = l.page - l.range.first.0 }) l.caches;
    }

abbrev pub decreases-loop-page : goal.decreases-loop-page
decreases-loop-page g l = l.end - l.page
