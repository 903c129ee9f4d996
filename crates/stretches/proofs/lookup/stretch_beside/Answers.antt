use Rattle.std.proofs.Common.{sym, subst}
use Rattle.stretches.specs.Leaves.{entries}
use Rattle.stretches.specs.Stretches.{IsStretchWith}
use Rattle.stretches.proofs.Reading.Sayings.{stretch_at_place}
use Rattle.stretches.proofs.lookup.stretch_beside.Goals as goal

pub returns : goal.returns
returns g c = subst (IsStretchWith g.V.Says (entries c.args.stretches.now) c.args.number) (sym c.at.ensures) (stretch_at_place g.V.Says _ c.requires _ _ c.at.result.now c.in_ok-spot.ensures.has)
