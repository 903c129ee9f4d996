use Rattle.std.proofs.Common.{sym, ap, ◌∙◌, ◌≡◌, ◌<◌, arith, length, Some, ℕ}
use Rattle.global_map.specs.Pairs.{node_of}
use Rattle.residency.specs.Between.{world_at}
use Rattle.residency.specs.declared.store.Store.{Store}
use Rattle.residency.specs.World.{World}
use Rattle.residency.proofs.Worlds.Homes.{home}
use Rattle.residency.proofs.Pushes.Told.{tells_then}
use Rattle.residency.proofs.Worlds.Composed.{still_then}
use Rattle.fault_path.proofs.Calls.Answered.{later_then}
use Rattle.fault_path.proofs.Calls.Gathered.{done_gathers, failed_gathers}
use Rattle.fault_path.proofs.Frames.ComingFrames.{brought_comes, come_then, more_come}
use Rattle.fault_path.proofs.Frames.GatheredFrames.{bound_below, doubled_page, same_home, then_gathered}
use Rattle.local_cache.specs.declared.own_state.OwnState.{OwnState}
use Rattle.local_cache.specs.Own.{own_of}
use Rattle.residency.specs.Causes.{frames_to_bring}
use Rattle.fault_path.proofs.Calls.Costs.{brought_more, brought_most, brought_taken, failed_most, most_more, taken_then}
use Rattle.residency.proofs.Translations.Kept.{drops_trans, still_drops_but}
use Rattle.fault_path.specs.Translating.{Nobody}
use Rattle.fault_path.specs.Coming.{IsBroughtIn, OnlyCome}
use Rattle.residency.proofs.Forests.StillForest.{still_like}
use Rattle.fault_path.proofs.gathering.brought_out.Given.{Over}
use Rattle.fault_path.proofs.gathering.brought_out.Goals.{After-bring_in}
use Rattle.fault_path.proofs.gathering.brought_out.Goals as goal

pub returns-clause-copied : goal.returns-clause-copied
returns-clause-copied g c =
    let old : World = world_at g.M.Mapper c.args.mapper.now c.args.caches.now c.args.store.now in
    let v : World = world_at g.M.Mapper c.bring_in.new.mapper c.bring_in.new.caches c.bring_in.new.self in
    let w : World = world_at g.M.Mapper c.double.new.mapper c.double.new.caches c.double.new.store in
    let own : OwnState = own_of c.args.caches.now c.args.node in
    let b = c.in_ok-home.ensures in
    let first = b.still in
    let same = first.stays.frames in
    let e = c.in-Ok.ensures.doubled in
    let d = e.done in
    let k = d.gathered in
    let within : c.in_ok-home.home.0 < length w.map = omega (arith, b.home.0, first.stays.right.tied.fitted.map_frames, k.still.stays.right.tied.fitted.map_frames, k.still.stays.frames) in
    done_gathers _ _ old w _ _ (tells_then _ _ first.stays _ _ _ _ e.later b.told e.told) (later_then _ _ _ b.later e.later) _ (record {
      gathered = then_gathered old v w c.in-Ok.fresh.0 first b.pinned k;
      page = doubled_page w c.in-Ok.fresh.0 c.in_ok-home.home.0 c.args.node k.still.stays.right within (d.stays.node ∙ b.home.1) d.bytes;
      home = λ f at.
          let here = home old f c.args.node c.requires.right (bound_below c.args.store.now.map f c.args.node at) at in
          let same : c.bring_in.new.self ≡ c.args.store.now = (b.idle here.resident).1 in
          let there : node_of c.args.store.now.map c.in_ok-home.home.0 ≡ Some c.args.node = ap (λ (s : Store). node_of s.map c.in_ok-home.home.0) (sym same) ∙ b.home.1 in
          let is : f ≡ c.in_ok-home.home.0 = same_home old f c.in_ok-home.home.0 c.args.node c.requires.right at there in
          ap (λ (j : ℕ). node_of c.double.new.store.map j) is ∙ d.stays.node ∙ b.home.1;
    })
    (taken_then (frames_to_bring own) old.frames.held v.frames.held w.frames.held same (brought_taken own old.frames v.frames _ _ same b.held _ b.traffic b.few) e.held)
    (brought_more own old.frames v.frames _ _ same b.held _ b.traffic b.few _ e.traffic e.later)

pub returns-in_default-clause-copied : goal.returns-in_default-clause-copied
returns-in_default-clause-copied g c =
    let own : OwnState = own_of c.args.caches.now c.args.node in
    let b = c.in_ok-home.ensures in
    let e = c.in_default.ensures.doubled in
    record {
      done = tt;
      none = record { still = still_then _ _ _ b.still e.none.still; pinned = e.none.pinned ∙ b.pinned };
      told = tells_then _ _ b.still.stays _ _ _ _ e.later b.told e.told;
      later = later_then _ _ _ b.later e.later;
      held = tt;
      traffic = tt;
      most = brought_most own c.args.store.now.frames c.bring_in.new.self.frames _ _ b.still.stays.frames b.held _ b.traffic b.few _ e.most e.later;
    }

pub returns-in_err-home-clause-copied : goal.returns-in_err-home-clause-copied
returns-in_err-home-clause-copied g c =
    let own : OwnState = own_of c.args.caches.now c.args.node in
    let e = c.in_err-home.ensures in
    let most = failed_most own c.args.store.now.frames _ _ _ _ e.traffic e.few in
    failed_gathers _ _ _ _ _ _ e.told e.later _ c.from_residual.result c.from_residual.ensures.1 (record { still = e.still; pinned = e.pinned }) (most_more _ _ _ _ _ _ most (omega arith) (omega arith))

pub returns-clause-drops : goal.returns-clause-drops
returns-clause-drops g c =
    drops_trans (λ n. n ≡ c.args.node) Nobody (λ n. n ≡ c.args.node) c.args.caches.now c.bring_in.new.caches c.double.new.caches c.args.store.now c.bring_in.new.self c.double.new.store (λ n e. e) (λ n e. absurd e)
    (still_drops_but _ _ _ _ c.args.caches.now c.bring_in.new.caches c.args.store.now c.bring_in.new.self c.requires.right.tied c.bring_in.ensures.still.stays c.bring_in.ensures.tables c.args.node c.bring_in.ensures.others) c.double.ensures.drops

pub returns-in_default-clause-drops : goal.returns-in_default-clause-drops
returns-in_default-clause-drops g c =
    drops_trans (λ n. n ≡ c.args.node) Nobody (λ n. n ≡ c.args.node) c.args.caches.now c.bring_in.new.caches c.double.new.caches c.args.store.now c.bring_in.new.self c.double.new.store (λ n e. e) (λ n e. absurd e)
    (still_drops_but _ _ _ _ c.args.caches.now c.bring_in.new.caches c.args.store.now c.bring_in.new.self c.requires.right.tied c.bring_in.ensures.still.stays c.bring_in.ensures.tables c.args.node c.bring_in.ensures.others) c.double.ensures.drops

pub returns-in_err-home-clause-drops : goal.returns-in_err-home-clause-drops
returns-in_err-home-clause-drops g c = still_drops_but _ _ _ _ c.args.caches.now c.bring_in.new.caches c.args.store.now c.bring_in.new.self c.requires.right.tied c.bring_in.ensures.still.stays c.bring_in.ensures.tables c.args.node c.bring_in.ensures.others

-- the page is brought in
brought : (g : Over) (c : After-bring_in g) → OnlyCome (IsBroughtIn c.args.caches.now c.args.node) (world_at g.M.Mapper c.args.mapper.now c.args.caches.now c.args.store.now) (world_at g.M.Mapper c.bring_in.new.mapper c.bring_in.new.caches c.bring_in.new.self)
brought g c =
    let old : World = world_at g.M.Mapper c.args.mapper.now c.args.caches.now c.args.store.now in
    let w : World = world_at g.M.Mapper c.bring_in.new.mapper c.bring_in.new.caches c.bring_in.new.self in
    let b = c.bring_in.ensures in
    brought_comes c.args.node old w c.requires.some b.others (λ here. (ap (λ (s : Store). s.map) (b.idle here).1, ap (λ (s : Store). s.frames.bytes) (b.idle here).1, (b.idle here).2))

-- and a second frame is taken, or isn't
pub returns-clause-frames : goal.returns-clause-frames
returns-clause-frames g c =
    come_then (IsBroughtIn c.args.caches.now c.args.node) _ _ _ (still_like c.args.caches.now c.bring_in.new.caches c.bring_in.ensures.still.stays.caches) (brought g (goal.at.returns-clause-frames g c).After-bring_in)
    (more_come Nobody (IsBroughtIn c.args.caches.now c.args.node) _ _ (λ n e. absurd e) c.double.ensures.frames)

pub returns-in_default-clause-frames : goal.returns-in_default-clause-frames
returns-in_default-clause-frames g c =
    come_then (IsBroughtIn c.args.caches.now c.args.node) _ _ _ (still_like c.args.caches.now c.bring_in.new.caches c.bring_in.ensures.still.stays.caches) (brought g (goal.at.returns-in_default-clause-frames g c).After-bring_in)
    (more_come Nobody (IsBroughtIn c.args.caches.now c.args.node) _ _ (λ n e. absurd e) c.double.ensures.frames)

pub returns-in_err-home-clause-frames : goal.returns-in_err-home-clause-frames
returns-in_err-home-clause-frames g c = brought g (goal.at.returns-in_err-home-clause-frames g c).After-bring_in
