use Rattle.std.proofs.Common.{◌≡◌, ◌+◌, ◌-◌, ◌*◌, ◌≤◌}
use Rattle.residency.specs.Between.{world_at}
use Rattle.residency.specs.Causes.{Later}
use Rattle.residency.specs.World.{Still, World}
use Rattle.fault_path.specs.Costs.{TrafficAtMost}
use Rattle.residency.specs.Translating.{Drops}
use Rattle.segment_ops.specs.Pushing.{TellsValues}
use Rattle.segment_ops.specs.Synced.{AreSynced, CleanStays, unclean_count}
use Rattle.segment_ops.specs.Translating.{IsReadBy}
use Rattle.segment_ops.proofs.pushing.push_pages.Given as goal

abbrev pub invariant-loop-page : goal.invariant-loop-page
invariant-loop-page g l =
    let M = g.M.Mapper in
    let old : World = world_at M l.fn.mapper l.fn.caches l.fn.store in
    let now : World = world_at M l.mapper l.caches l.store in
    let some = unclean_count l.fn.caches l.range.cache.0 l.range.first.0 (l.page - l.range.first.0) in
    record {
      first : l.range.first.0 ≤ l.page;
      end : l.page ≤ l.range.first.0 + l.range.pages;
      still : Still old now;
      told : TellsValues old now (M.counts l.fn.mapper) (M.counts l.mapper);
      pinned : l.store.frames.pinned ≡ l.fn.store.frames.pinned;
      later : Later (M.counts l.fn.mapper) (M.counts l.mapper);
      clean : CleanStays l.fn.caches l.caches;
      synced : AreSynced l.range l.page now;
      drops : Drops (IsReadBy l.fn.caches l.range) l.fn.caches l.fn.store l.caches l.store;
      most : TrafficAtMost some (2 * some) (M.counts l.fn.mapper) (M.counts l.mapper);
    }

abbrev pub decreases-loop-page : goal.decreases-loop-page
decreases-loop-page g l = l.end - l.page
