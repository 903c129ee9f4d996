use Rattle.std.proofs.Common.{sym, ap, ◌∙◌}
use Rattle.std.specs.FinMap as map
use Rattle.mixed_map.specs.Mixed.{Mixed}
use Rattle.mixed_map.proofs.mixed_map.MixedMap.place_of.Goals as goal

pub place_of-requires : goal.place_of-requires
place_of-requires g c = (c.requires.0, ap (λ (v : Mixed _ _). map.get v.slots c.requires.0) c.self.view_is ∙ c.requires.1)

pub returns-clause-place : goal.returns-clause-place
returns-clause-place g c = ap (λ (v : Mixed _ _). map.get v.slots c.place_of.result.number) (sym c.self.view_is) ∙ c.place_of.ensures.place
