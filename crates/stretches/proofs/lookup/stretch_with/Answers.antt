use Rattle.std.proofs.Common.{◌∙◌, sym, subst}
use Rattle.stretches.specs.Leaves.{entries}
use Rattle.stretches.specs.Spots.{index}
use Rattle.stretches.specs.Stretches.{IsStretchWith}
use Rattle.stretches.proofs.Reading.Numbers.{any_default}
use Rattle.stretches.proofs.Reading.Sayings.{stretch_at_place}
use Rattle.stretches.proofs.lookup.stretch_with.Goals as goal

pub returns-clause-has : goal.returns-clause-has
returns-clause-has g c = subst (IsStretchWith g.V.Says (entries c.args.stretches.now) c.args.number) (sym c.get.ensures) (stretch_at_place g.V.Says _ c.requires _ _ c.get.result c.in_ok-spot.ensures.has)

pub returns-clause-stands : goal.returns-clause-stands
returns-clause-stands g c =
    let at = index c.args.stretches.now c.in_ok-spot.spot in
    let within = c.in_ok-spot.ensures.has.within in
    record { at = at; within = within; is = λ d. any_default _ at d _ within ∙ sym c.get.ensures }
