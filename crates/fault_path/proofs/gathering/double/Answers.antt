use Rattle.std.proofs.Common.{◌≡◌, ◌+◌, ◌-◌, Bool, List, sym, subst, rules, refl, ap}
use Rattle.std.specs.List.{count_by}
use Rattle.frame_pool.specs.Pool.{bytes_of, held_count}
use Rattle.fault_path.specs.Costs.{free_count}
use Rattle.residency.specs.Between.{world_at}
use Rattle.residency.specs.declared.store.Store.{Store}
use Rattle.residency.specs.World.{World}
use Rattle.fault_path.specs.Gathering.{IsGathered}
use Rattle.residency.proofs.Pushes.PushedPages.{tells_as}
use Rattle.fault_path.proofs.Calls.Gathered.{done_gathers, failed_gathers}
use Rattle.fault_path.specs.Coming.{OnlyCome}
use Rattle.fault_path.proofs.Frames.ComingFrames.{come_filled}
use Rattle.fault_path.proofs.Frames.GatheredFrames.{filled_gathered}
use Rattle.residency.specs.Translating.{TablesAfter}
use Rattle.residency.proofs.Translations.Kept.{drops_by}
use Rattle.fault_path.specs.Translating.{Nobody}
use Rattle.fault_path.proofs.gathering.double.Goals as goal

pub returns-clause-doubled : goal.returns-clause-doubled
returns-clause-doubled g c =
    let old : World = world_at g.M.Mapper c.args.mapper.now c.args.caches.now c.args.store.now in
    let w : World = world_at g.M.Mapper c.make_free_beside.new.mapper c.make_free_beside.new.caches c.make_free_beside.new.store in
    let v : World = world_at g.M.Mapper c.make_free_beside.new.mapper c.make_free_beside.new.caches c.copy.new.self in
    let e = c.in_ok-fresh.ensures.gathered in
    let same : c.copy.new.self.frames.held ≡ w.frames.held = ap (λ (s : Store). s.frames.held) c.copy.ensures in
    let held = subst (λ (hs : List Bool). count_by (λ h. h) hs + (1 - free_count old.frames) ≡ held_count old.frames + 1) (sym same) e.held in
    done_gathers _ _ old v _ _ (tells_as _ _ _ _ _ refl e.told) e.later _ (record {
      gathered = subst (λ (s : Store). IsGathered c.in_ok-fresh.fresh.0 old (world_at g.M.Mapper c.make_free_beside.new.mapper c.make_free_beside.new.caches s)) (sym c.copy.ensures)
          (filled_gathered old w c.in_ok-fresh.fresh.0 (bytes_of w.frames c.args.frame.0) e.done);
      apart = c.in_ok-fresh.ensures.apart;
      stays = search rules;
      bytes = search rules;
    }) held e.traffic

pub returns-in_err-fresh-clause-doubled : goal.returns-in_err-fresh-clause-doubled
returns-in_err-fresh-clause-doubled g c =
    let e = c.in_err-fresh.ensures.gathered in
    failed_gathers _ _ _ _ _ _ e.told e.later _ c.from_residual.result c.from_residual.ensures.1 e.none e.most

pub returns-clause-drops : goal.returns-clause-drops
returns-clause-drops g c =
    drops_by Nobody c.args.caches.now c.make_free_beside.new.caches c.args.store.now c.make_free_beside.new.store c.args.store.now c.copy.new.self refl refl (ap (λ (s : Store). s.map) c.copy.ensures) (ap (λ (s : Store). s.tables) c.copy.ensures) c.make_free_beside.ensures.drops

pub returns-clause-tables : goal.returns-clause-tables
returns-clause-tables g c = subst (TablesAfter c.args.store.now) (sym c.copy.ensures) c.make_free_beside.ensures.tables

pub returns-clause-frames : goal.returns-clause-frames
returns-clause-frames g c =
    let old : World = world_at g.M.Mapper c.args.mapper.now c.args.caches.now c.args.store.now in
    let w : World = world_at g.M.Mapper c.make_free_beside.new.mapper c.make_free_beside.new.caches c.make_free_beside.new.store in
    subst (λ (s : Store). OnlyCome Nobody old (world_at g.M.Mapper c.make_free_beside.new.mapper c.make_free_beside.new.caches s)) (sym c.copy.ensures)
    (come_filled Nobody old w c.in_ok-fresh.fresh.0 (bytes_of w.frames c.args.frame.0) c.in_ok-fresh.ensures.gathered.done.taken.unbound c.make_free_beside.ensures.frames)
