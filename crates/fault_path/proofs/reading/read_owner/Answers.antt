use Rattle.std.proofs.Common.{sym, ap, ◌∙◌, ◌≡◌, true, false}
use Rattle.std.proofs.lemmas.Bool.{false≢true}
use Rattle.std.proofs.result.Match.{err_is}
use Rattle.local_cache.specs.Own.{own_of}
use Rattle.residency.specs.Between.{world_at}
use Rattle.residency.specs.World.{World}
use Rattle.residency.specs.declared.store.Store.{Store}
use Rattle.residency.proofs.Forests.StillForest.{still_forest}
use Rattle.residency.proofs.Translations.Kept.{same_drops, still_drops_but}
use Rattle.fault_path.specs.Faults.{is_zero}
use Rattle.fault_path.specs.Coming.{IsBroughtIn, OnlyCome}
use Rattle.fault_path.proofs.Calls.Answered.{still_answered}
use Rattle.fault_path.proofs.Frames.ComingFrames.{brought_comes, same_come}
use Rattle.fault_path.proofs.OnePage.FoundPage.{found_frame, found_zero, resident_is, zero_is}
use Rattle.fault_path.proofs.reading.read_owner.Given.{Over}
use Rattle.fault_path.proofs.reading.read_owner.Goals.{After-bring_in, Else-is_zero, Then-is_zero}
use Rattle.fault_path.proofs.reading.read_owner.Goals as goal

-- the page is one of zeros, or isn't
zeros : (g : Over) (c : Then-is_zero g) → is_zero (own_of c.args.caches.now c.args.owner) ≡ true
zeros g c = sym c.is_zero.ensures ∙ c.if-is_zero.true

filled : (g : Over) (c : Else-is_zero g) → is_zero (own_of c.args.caches.now c.args.owner) ≡ false
filled g c = sym c.is_zero.ensures ∙ c.if-is_zero.false

pub returns-then-is_zero-clause-frame : goal.returns-then-is_zero-clause-frame
returns-then-is_zero-clause-frame g c = record { zero = sym (zeros g (goal.at.returns-then-is_zero-clause-frame g c).Then-is_zero); bound = tt }

pub returns-then-is_zero-clause-value : goal.returns-then-is_zero-clause-value
returns-then-is_zero-clause-value g c =
    let zero = zeros g (goal.at.returns-then-is_zero-clause-value g c).Then-is_zero in
    let old : World = world_at g.M.Mapper c.args.mapper.now c.args.caches.now c.args.store.now in
    λ n there owns. found_zero old c.requires.right.sound c.requires.right.shaped n c.args.owner there owns (zero_is (own_of c.args.caches.now c.args.owner) zero)

pub returns-clause-answered : goal.returns-clause-answered
returns-clause-answered g c = still_answered _ _ c.in_ok-frame.ensures.still _ _ c.requires.right.sound c.requires.right.shaped c.in_ok-frame.ensures.pinned c.in_ok-frame.ensures.later c.in_ok-frame.ensures.told

pub returns-clause-forest : goal.returns-clause-forest
returns-clause-forest g c = still_forest _ _ c.in_ok-frame.ensures.still

pub returns-in_err-frame-clause-answered : goal.returns-in_err-frame-clause-answered
returns-in_err-frame-clause-answered g c = still_answered _ _ c.in_err-frame.ensures.still _ _ c.requires.right.sound c.requires.right.shaped c.in_err-frame.ensures.pinned c.in_err-frame.ensures.later c.in_err-frame.ensures.told

pub returns-in_err-frame-clause-forest : goal.returns-in_err-frame-clause-forest
returns-in_err-frame-clause-forest g c = still_forest _ _ c.in_err-frame.ensures.still

pub returns-clause-frame : goal.returns-clause-frame
returns-clause-frame g c =
    let e = c.in_ok-frame.ensures in
    record { zero = sym (filled g (goal.at.returns-clause-frame g c).Else-is_zero); bound = e.home }

pub returns-clause-value : goal.returns-clause-value
returns-clause-value g c =
    let old : World = world_at g.M.Mapper c.args.mapper.now c.args.caches.now c.args.store.now in
    let w : World = world_at g.M.Mapper c.bring_in.new.mapper c.bring_in.new.caches c.bring_in.new.self in
    let e = c.in_ok-frame.ensures in
    λ n there owns. found_frame old c.requires.right.sound c.requires.right.shaped n c.args.owner there owns w e.still c.in_ok-frame.frame.0 e.home.0 e.home.1

pub returns-clause-idle : goal.returns-clause-idle
returns-clause-idle g c =
    let some = filled g (goal.at.returns-clause-idle g c).Else-is_zero in
    let e = c.in_ok-frame.ensures in
    λ hand. e.idle (resident_is (own_of c.args.caches.now c.args.owner) hand some)

pub returns-in_err-frame-clause-idle : goal.returns-in_err-frame-clause-idle
returns-in_err-frame-clause-idle g c =
    let some = filled g (goal.at.returns-in_err-frame-clause-idle g c).Else-is_zero in
    let e = c.in_err-frame.ensures in
    rw (err_is c.from_residual.result _ c.from_residual.ensures.1) (λ hand. e.idle (resident_is (own_of c.args.caches.now c.args.owner) hand some))

pub returns-then-is_zero-clause-traffic : goal.returns-then-is_zero-clause-traffic
returns-then-is_zero-clause-traffic g c =
    let zero = zeros g (goal.at.returns-then-is_zero-clause-traffic g c).Then-is_zero in
    λ out. absurd (false≢true (sym out ∙ zero))

pub returns-then-is_zero-clause-few : goal.returns-then-is_zero-clause-few
returns-then-is_zero-clause-few g c =
    let zero = zeros g (goal.at.returns-then-is_zero-clause-few g c).Then-is_zero in
    λ out. absurd (false≢true (sym out ∙ zero))

pub returns-clause-traffic : goal.returns-clause-traffic
returns-clause-traffic g c = let e = c.in_ok-frame.ensures in λ out. e.traffic

pub returns-in_err-frame-clause-traffic : goal.returns-in_err-frame-clause-traffic
returns-in_err-frame-clause-traffic g c = rw (err_is c.from_residual.result _ c.from_residual.ensures.1) (λ out. c.in_err-frame.ensures.traffic)

pub returns-clause-few : goal.returns-clause-few
returns-clause-few g c = let e = c.in_ok-frame.ensures in λ out. e.few

pub returns-in_err-frame-clause-few : goal.returns-in_err-frame-clause-few
returns-in_err-frame-clause-few g c = rw (err_is c.from_residual.result _ c.from_residual.ensures.1) (λ out. c.in_err-frame.ensures.few)

pub returns-clause-drops : goal.returns-clause-drops
returns-clause-drops g c =
    let b = c.bring_in.ensures in
    still_drops_but _ _ _ _ c.args.caches.now c.bring_in.new.caches c.args.store.now c.bring_in.new.self c.requires.right.store.tied b.still.stays b.tables c.args.owner b.others

pub returns-in_err-frame-clause-drops : goal.returns-in_err-frame-clause-drops
returns-in_err-frame-clause-drops g c =
    let b = c.bring_in.ensures in
    still_drops_but _ _ _ _ c.args.caches.now c.bring_in.new.caches c.args.store.now c.bring_in.new.self c.requires.right.store.tied b.still.stays b.tables c.args.owner b.others

pub returns-then-is_zero-clause-drops : goal.returns-then-is_zero-clause-drops
returns-then-is_zero-clause-drops g c = same_drops (λ n. n ≡ c.args.owner) c.args.caches.now c.args.store.now c.requires.right.store.tied.placed

-- the page is brought in, where it isn't at hand
owner_comes : (g : Over) (c : After-bring_in g) → OnlyCome (IsBroughtIn c.args.caches.now c.args.owner) (world_at g.M.Mapper c.args.mapper.now c.args.caches.now c.args.store.now) (world_at g.M.Mapper c.bring_in.new.mapper c.bring_in.new.caches c.bring_in.new.self)
owner_comes g c =
    let some = filled g (goal.at.After-bring_in g c).Else-is_zero in
    let old : World = world_at g.M.Mapper c.args.mapper.now c.args.caches.now c.args.store.now in
    let w : World = world_at g.M.Mapper c.bring_in.new.mapper c.bring_in.new.caches c.bring_in.new.self in
    let b = c.bring_in.ensures in
    brought_comes c.args.owner old w some b.others (λ here. (ap (λ (s : Store). s.map) (b.idle here).1, ap (λ (s : Store). s.frames.bytes) (b.idle here).1, (b.idle here).2))

pub returns-then-is_zero-clause-frames : goal.returns-then-is_zero-clause-frames
returns-then-is_zero-clause-frames g c = same_come (IsBroughtIn c.args.caches.now c.args.owner) _

pub returns-clause-frames : goal.returns-clause-frames
returns-clause-frames g c = owner_comes g (goal.at.returns-clause-frames g c).After-bring_in

pub returns-in_err-frame-clause-frames : goal.returns-in_err-frame-clause-frames
returns-in_err-frame-clause-frames g c = owner_comes g (goal.at.returns-in_err-frame-clause-frames g c).After-bring_in
