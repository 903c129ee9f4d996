use Rattle.std.proofs.Common.{refl, sym, ap, ◌∙◌}
use Rattle.std.specs.FinMap as map
use Rattle.mixed_map.specs.Lone.{Lone}
use Rattle.mixed_map.proofs.lone_map.LoneMap.place.Goals as goal

pub returns-in-Some-clause-place : goal.returns-in-Some-clause-place
returns-in-Some-clause-place g c = (refl, sym (ap (λ (l : Lone _). map.get l.slots c.args.number) c.self.view_is) ∙ c.in-Some.ensures)
