use Rattle.frame_pool.specs.Pool.{held_count}
use Rattle.residency.specs.Between.{world_at}
use Rattle.residency.specs.Causes.{pushes_for}
use Rattle.std.proofs.Common.{sym, ap, subst, ◌∙◌, ◌≡◌, ◌+◌, true, false, replicate, rules, refl}
use Rattle.local_cache.specs.Own.{is_resident}
use Rattle.residency.specs.declared.store.Store.{Store}
use Rattle.residency.specs.World.{World}
use Rattle.residency.proofs.Worlds.Homes.{home}
use Rattle.fault_path.specs.Gathering.{IsGathered}
use Rattle.residency.proofs.Pushes.PushedPages.{tells_as}
use Rattle.fault_path.proofs.Calls.Gathered.{one_gathers}
use Rattle.fault_path.specs.Coming.{OnlyCome}
use Rattle.fault_path.proofs.Frames.ComingFrames.{come_filled, none_come}
use Rattle.fault_path.proofs.Frames.GatheredFrames.{bound_below, filled_gathered, free_gathered}
use Rattle.residency.proofs.Translations.Kept.{drops_by, still_drops}
use Rattle.fault_path.specs.Translating.{Nobody}
use Rattle.fault_path.proofs.gathering.zeroed.Goals as goal

pub returns-clause-copied : goal.returns-clause-copied
returns-clause-copied g c =
    let old : World = world_at g.M.Mapper c.args.mapper.now c.args.caches.now c.args.store.now in
    let w : World = world_at g.M.Mapper c.make_free.new.mapper c.make_free.new.caches c.make_free.new.self in
    let v : World = world_at g.M.Mapper c.make_free.new.mapper c.make_free.new.caches c.zero.new.self in
    let e = c.make_free.ensures.free in
    let held = subst (λ (s : Store). held_count s.frames + pushes_for old.frames.held ≡ held_count old.frames + 1) (sym c.zero.ensures) c.in-Ok.ensures.held in
    one_gathers _ old v _ _ (record {
      gathered = subst (λ (s : Store). IsGathered c.in-Ok.fresh.0 old (world_at g.M.Mapper c.make_free.new.mapper c.make_free.new.caches s)) (sym c.zero.ensures)
          (filled_gathered old w c.in-Ok.fresh.0 (replicate w.frames.page 0) (free_gathered old w c.in-Ok.fresh.0 c.requires.right c.in-Ok.ensures.free.still c.in-Ok.ensures.free.done));
      page = search rules;
      home = λ f at. absurd (
          let here = home old f c.args.node c.requires.right (bound_below c.args.store.now.map f c.args.node at) at in
          let no : true ≡ false = sym here.resident ∙ ap is_resident c.requires.zero in
          cc no);
    }) tt (tells_as _ _ _ _ _ refl e.told) e.later held _ e.traffic e.few

pub returns-in_default-clause-copied : goal.returns-in_default-clause-copied
returns-in_default-clause-copied g c =
    let e = c.make_free.ensures.free in
    one_gathers _ _ _ _ _ tt (record { still = e.still; pinned = c.in_default.ensures.free.pinned }) e.told e.later tt _ e.traffic e.few

pub returns-clause-drops : goal.returns-clause-drops
returns-clause-drops g c =
    drops_by Nobody c.args.caches.now c.make_free.new.caches c.args.store.now c.make_free.new.self c.args.store.now c.zero.new.self refl refl (ap (λ (s : Store). s.map) c.zero.ensures) (ap (λ (s : Store). s.tables) c.zero.ensures)
    (still_drops _ _ _ _ c.args.caches.now c.make_free.new.caches c.args.store.now c.make_free.new.self c.requires.right.tied c.make_free.ensures.free.still.stays c.make_free.ensures.tables c.make_free.ensures.free.others)

pub returns-in_default-clause-drops : goal.returns-in_default-clause-drops
returns-in_default-clause-drops g c = still_drops _ _ _ _ c.args.caches.now c.make_free.new.caches c.args.store.now c.make_free.new.self c.requires.right.tied c.make_free.ensures.free.still.stays c.make_free.ensures.tables c.make_free.ensures.free.others

pub returns-clause-frames : goal.returns-clause-frames
returns-clause-frames g c =
    let old : World = world_at g.M.Mapper c.args.mapper.now c.args.caches.now c.args.store.now in
    let w : World = world_at g.M.Mapper c.make_free.new.mapper c.make_free.new.caches c.make_free.new.self in
    subst (λ (s : Store). OnlyCome Nobody old (world_at g.M.Mapper c.make_free.new.mapper c.make_free.new.caches s)) (sym c.zero.ensures)
    (come_filled Nobody old w c.in-Ok.fresh.0 (replicate w.frames.page 0) c.in-Ok.ensures.free.done.unbound (none_come old w c.make_free.ensures.free.others))

pub returns-in_default-clause-frames : goal.returns-in_default-clause-frames
returns-in_default-clause-frames g c = none_come _ _ c.make_free.ensures.free.others
