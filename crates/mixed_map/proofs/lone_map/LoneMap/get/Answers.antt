use Rattle.std.proofs.Common.{sym, ap, ◌∙◌}
use Rattle.std.specs.FinMap as map
use Rattle.mixed_map.proofs.lone_map.LoneMap.get.Goals as goal

pub returns-in_err-place : goal.returns-in_err-place
returns-in_err-place g c = rw c.from_residual.ensures (sym c.in_err-place.ensures.none.1)

pub returns : goal.returns
returns g c = sym (ap (map.get c.args.self.now.entries) (sym c.in_ok-place.ensures.place.0) ∙ c.at.ensures)
