use Rattle.std.proofs.Common.{refl, sym, ap, ◌∙◌}
use Rattle.std.specs.FinMap as map
use Rattle.mixed_map.specs.Lone.{Lone}
use Rattle.mixed_map.proofs.lone_map.LoneMap.recent_place.Goals as goal

pub returns : goal.returns
returns g c = (refl, sym (ap (λ (l : Lone _). map.get l.slots c.args.number) c.self.view_is) ∙ c.in_ok-slot.ensures)
