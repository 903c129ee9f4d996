use Rattle.std.proofs.Common.{◌≡◌, ◌+◌, ◌-◌, ◌≤◌}
use Rattle.vm_ids.specs.Counting.{RoseBy}
use Rattle.frame_pool.specs.Pool.{held_count}
use Rattle.residency.specs.Between.{world_at}
use Rattle.residency.specs.Causes.{Later, dirty_count}
use Rattle.residency.specs.Pushing.{TellsOn}
use Rattle.residency.specs.Translating.{TablesAfter}
use Rattle.residency.specs.World.{OthersStay, Still}
use Rattle.residency.proofs.store.Store.page_out.Given as goal

abbrev pub invariant-loop-done : goal.invariant-loop-done
invariant-loop-done g l = record {
  still : Still (world_at g.M.Mapper l.initial.mapper l.initial.caches l.initial.self) (world_at g.M.Mapper l.mapper l.caches l.self);
  pinned : l.self.frames.pinned ≡ l.initial.self.frames.pinned;
  fewer : held_count l.self.frames + l.done ≡ held_count l.initial.self.frames;
  others : OthersStay (world_at g.M.Mapper l.initial.mapper l.initial.caches l.initial.self) (world_at g.M.Mapper l.mapper l.caches l.self);
  later : Later (g.M.Mapper.counts l.initial.mapper) (g.M.Mapper.counts l.mapper);
  pulls : RoseBy 0 (g.M.Mapper.counts l.initial.mapper).pulls (g.M.Mapper.counts l.mapper).pulls;
  told : TellsOn (world_at g.M.Mapper l.initial.mapper l.initial.caches l.initial.self) (world_at g.M.Mapper l.mapper l.caches l.self) (g.M.Mapper.counts l.initial.mapper) (g.M.Mapper.counts l.mapper);
  dirty : dirty_count l.caches ≤ dirty_count l.initial.caches;
  few : dirty_count l.initial.caches ≤ dirty_count l.caches + l.done;
  pushes : RoseBy (dirty_count l.initial.caches - dirty_count l.caches) (g.M.Mapper.counts l.initial.mapper).pushes (g.M.Mapper.counts l.mapper).pushes;
  tables : TablesAfter l.initial.self l.self;
}
