use Rattle.mixed_map.proofs.Telling.{found_from}
use Rattle.mixed_map.proofs.mixed_map.MixedMap.stretch_from.Goals as goal

pub returns-clause-from : goal.returns-clause-from
returns-clause-from g c = found_from g.V.Says g.S.Alone.told c.self.inside.lone c.self.inside.stretches c.args.self.now c.self.view_is c.args.number c.stretch_from.result c.stretch_from.ensures.from
