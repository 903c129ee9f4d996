use Rattle.std.proofs.Common.{◌≤◌, ◌-◌, ap, arith, length, refl}
use Rattle.std.proofs.lemmas.List.{length-take-le}
use Rattle.flat_mm.specs.Store.{Store}
use Rattle.flat_mm.proofs.Loosening.{dropped, dropped_all}
use Rattle.flat_mm.proofs.store.PageStore.drop_loose.Goals.{After-drop_one}
use Rattle.flat_mm.proofs.store.PageStore.drop_loose.Goals as goal

pub loop-self-init : goal.loop-self-init
loop-self-init c = record { page = refl; frames = refl; caches = refl; counted = refl }

pub drop_one-requires : goal.drop_one-requires
drop_one-requires c = omega (arith, c.loose.ensures.loose)

some : (c : After-drop_one) → 1 ≤ length c.loop-self.self.loose
some c = omega (arith, c.loose.ensures.loose)

pub loop-self-preserved : goal.loop-self-preserved
loop-self-preserved c = dropped c.args.self.now c.loop-self.self c.drop_one.new.self (some c) c.drop_one.ensures c.loop-self.invariant

pub loop-self-smaller : goal.loop-self-smaller
loop-self-smaller c =
    omega (arith, some c, ap (λ (s : Store). length s.loose) c.drop_one.ensures, length-take-le (length c.loop-self.self.loose - 1) c.loop-self.self.loose (omega (arith, some c)))

pub returns : goal.returns
returns c = dropped_all c.args.self.now c.loop-self.self (omega (arith, c.loose.ensures.loose)) c.loop-self.invariant
