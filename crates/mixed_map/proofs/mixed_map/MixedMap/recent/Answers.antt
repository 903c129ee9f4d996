use Rattle.std.proofs.Common.{sym, ap, ◌∙◌}
use Rattle.std.specs.Prelude.{is_some}
use Rattle.std.specs.FinMap as map
use Rattle.mixed_map.proofs.mixed_map.MixedMap.recent.Goals as goal

pub returns-clause-slot : goal.returns-clause-slot
returns-clause-slot g c = ap is_some (ap (map.get c.args.self.now.slots) (sym c.in_ok-place.ensures.0) ∙ c.in_ok-place.ensures.1)

pub returns-clause-entry : goal.returns-clause-entry
returns-clause-entry g c = ap (map.get c.args.self.now.cells) (sym c.in_ok-place.ensures.0) ∙ c.at.ensures
