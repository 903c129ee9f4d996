use Rattle.std.proofs.Common.{sym, ap, ◌∙◌}
use Rattle.std.specs.Prelude.{is_some}
use Rattle.std.specs.FinMap as map
use Rattle.mixed_map.proofs.mixed_map.MixedMap.lone.Goals as goal

pub returns-clause-slot : goal.returns-clause-slot
returns-clause-slot g c = ap is_some (ap (map.get c.args.self.now.slots) (sym c.in_ok-place.ensures.place.0) ∙ c.in_ok-place.ensures.place.1)

pub returns-clause-entry : goal.returns-clause-entry
returns-clause-entry g c = ap (map.get c.args.self.now.cells) (sym c.in_ok-place.ensures.place.0) ∙ c.at.ensures

pub returns-in_err-place-clause-slot : goal.returns-in_err-place-clause-slot
returns-in_err-place-clause-slot g c = rw c.from_residual.ensures c.in_err-place.ensures.none.0
