use Rattle.std.proofs.Common.{sym, ap, ◌∙◌}
use Rattle.std.specs.FinMap as map
use Rattle.mixed_map.specs.Lone.{Lone}
use Rattle.mixed_map.proofs.lone_map.LoneMap.place_of.Goals as goal

pub key-requires : goal.key-requires
key-requires g c = (c.requires.0, ap (λ (l : Lone _). map.get l.slots c.requires.0) c.self.view_is ∙ c.requires.1)

pub returns-clause-place : goal.returns-clause-place
returns-clause-place g c = ap (λ (l : Lone _). map.get l.slots c.key.result) (sym c.self.view_is) ∙ c.key.ensures
