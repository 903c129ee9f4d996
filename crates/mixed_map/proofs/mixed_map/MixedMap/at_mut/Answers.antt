use Rattle.std.proofs.Common.{refl, ap, ◌∙◌}
use Rattle.std.specs.FinMap as map
use Rattle.mixed_map.specs.Lone.{Lone}
use Rattle.mixed_map.specs.Mixed.{Mixed}
use Rattle.mixed_map.proofs.Telling.{cell_alone, mixed_changed, none_of, none_set, seen, told_insert}
use Rattle.mixed_map.proofs.mixed_map.MixedMap.at_mut.Goals as goal

pub at_mut-requires : goal.at_mut-requires
at_mut-requires g c = ap (λ (v : Mixed _ _). map.get v.slots c.args.place.number) c.self.view_is ∙ c.requires

pub invariant_of-self-lent : goal.invariant_of-self-lent
invariant_of-self-lent g c w =
    let n = c.args.place.number in
    let lone = c.self.inside.lone in
    let alone = cell_alone g.V.Says g.S.Alone.told c.self.inside.lone c.self.inside.stretches c.args.self.now c.self.view_is c.self.invariant n _ c.at_mut.ensures.entry in
    let new : Lone _ = record lone { entries = map.insert lone.entries n w } in
    mixed_changed g.V.Says g.S.Alone.told lone new c.self.inside.stretches c.self.invariant (none_of g.V.Says g.S.Alone.told lone.entries c.self.inside.stretches.list n w alone.1) (λ q e. c.self.invariant.placed q (none_set g.V.Says g.S.Alone.told lone.entries n w q e).1) refl c.self.invariant.few

pub returns : goal.returns
returns g c =
    let n = c.args.place.number in
    let lone = c.self.inside.lone in
    let alone = cell_alone g.V.Says g.S.Alone.told c.self.inside.lone c.self.inside.stretches c.args.self.now c.self.view_is c.self.invariant n _ c.at_mut.ensures.entry in (
      (
        refl,
        λ w. seen g.V.Says g.S.Alone.told _ _ _ _ _ _ _ _ _ _
            (told_insert g.V.Says g.S.Alone.told lone.entries c.self.inside.stretches.list n w alone.1 ∙ ap (λ (v : Mixed _ _). map.insert v.cells n w) c.self.view_is)
            (ap (λ (v : Mixed _ _). v.slots) c.self.view_is)
            (ap (λ (v : Mixed _ _). v.list) c.self.view_is)
            (ap (λ (v : Mixed _ _). v.count) c.self.view_is)
            (ap (λ (v : Mixed _ _). v.room) c.self.view_is),
      ),
      record { writes_back = tt; entry = alone.0 },
    )
