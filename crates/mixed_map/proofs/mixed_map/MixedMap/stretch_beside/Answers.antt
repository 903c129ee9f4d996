use Rattle.std.proofs.Common.{Bor, subst}
use Rattle.std.specs.Prelude.{IfSome}
use Rattle.std.proofs.lemmas.Option.{IfSome_then}
use Rattle.stretches.specs.declared.stretch.Stretch.{Stretch}
use Rattle.stretches.specs.Stretches.{IsStretchWith}
use Rattle.mixed_map.specs.Mixed.{Mixed}
use Rattle.mixed_map.proofs.Telling.{tells}
use Rattle.mixed_map.proofs.mixed_map.MixedMap.stretch_beside.Goals as goal

pub returns-clause-with : goal.returns-clause-with
returns-clause-with g c =
    subst (λ (v : Mixed _ _). IfSome c.stretch_beside.result (λ (r : Bor (Stretch _)). IsStretchWith g.V.Says v.list c.args.number r.now)) c.self.view_is c.stretch_beside.ensures

pub returns-clause-told : goal.returns-clause-told
returns-clause-told g c = IfSome_then c.stretch_beside.result c.stretch_beside.ensures (λ r with. tells g.V.Says g.S.Alone.told c.self.inside.lone c.self.inside.stretches c.args.self.now c.self.view_is r.now with.said)
