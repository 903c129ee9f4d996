use Rattle.std.proofs.Common.{sym, subst}
use Rattle.stretches.specs.Leaves.{entries}
use Rattle.stretches.specs.Places.{IsFirstBehind}
use Rattle.stretches.proofs.Reading.Order.{first_rises}
use Rattle.stretches.proofs.lookup.first_behind.Goals as goal

pub spot_behind-requires : goal.spot_behind-requires
spot_behind-requires g c = first_rises g.V.Says 0 (entries c.args.stretches.now) c.requires

pub returns-in-Some-clause-behind : goal.returns-in-Some-clause-behind
returns-in-Some-clause-behind g c =
    subst (IsFirstBehind (entries c.args.stretches.now) c.args.number) (sym c.behind.ensures.index) c.in-Some.ensures.last
