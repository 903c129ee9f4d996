use Rattle.std.proofs.Common.{◌≡◌, None, subst}
use Rattle.std.specs.Prelude.{MatchOption}
use Rattle.stretches.specs.Stretches.{IsStretchWith, said}
use Rattle.mixed_map.specs.Mixed.{Mixed}
use Rattle.mixed_map.proofs.Telling.{told_with}
use Rattle.mixed_map.proofs.mixed_map.MixedMap.stretch_with.Goals as goal

pub returns-clause-with : goal.returns-clause-with
returns-clause-with g c =
    subst (λ (v : Mixed _ _). MatchOption c.stretch_with.result (said g.V.Says v.list c.args.number ≡ None) (IsStretchWith g.V.Says v.list c.args.number)) c.self.view_is c.stretch_with.ensures.from

pub returns-clause-told : goal.returns-clause-told
returns-clause-told g c = told_with g.V.Says g.S.Alone.told c.self.inside.lone c.self.inside.stretches c.args.self.now c.self.view_is c.args.number c.stretch_with.result c.stretch_with.ensures.from
