use Rattle.std.proofs.Common.{ap, ◌∙◌}
use Rattle.std.specs.FinMap as map
use Rattle.mixed_map.specs.Mixed.{Mixed}
use Rattle.mixed_map.proofs.Telling.{cell_alone}
use Rattle.mixed_map.proofs.mixed_map.MixedMap.at.Goals as goal

pub at-requires : goal.at-requires
at-requires g c = ap (λ (v : Mixed _ _). map.get v.slots c.args.place.number) c.self.view_is ∙ c.requires

pub returns : goal.returns
returns g c = (cell_alone g.V.Says g.S.Alone.told c.self.inside.lone c.self.inside.stretches c.args.self.now c.self.view_is c.self.invariant c.args.place.number _ c.at.ensures).0
