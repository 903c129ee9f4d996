use Rattle.std.proofs.Common.{refl, sym, ap, subst, ◌∙◌, arith}
use Rattle.std.specs.FinMap as map
use Rattle.mixed_map.specs.Lone.{Lone}
use Rattle.mixed_map.specs.Mixed.{IsMixed, Mixed}
use Rattle.mixed_map.proofs.Telling.{cell_alone, mixed_changed, none_left, none_less, seen, the_mixed, told_remove}
use Rattle.mixed_map.proofs.mixed_map.MixedMap.remove.Goals as goal

pub take-requires : goal.take-requires
take-requires g c = ap (λ (v : Mixed _ _). map.get v.slots c.args.place.number) c.self.view_is ∙ c.requires

pub invariant_of-self : goal.invariant_of-self
invariant_of-self g c =
    let less = sym (ap (λ (l : Lone _). map.len l.slots) c.take.ensures.taken) in
    subst (λ (l : Lone _). IsMixed g.V.Says l c.self.inside.stretches) (sym c.take.ensures.taken)
    (mixed_changed g.V.Says g.S.Alone.told c.self.inside.lone (record { entries = map.remove c.self.inside.lone.entries c.args.place.number; slots = map.remove c.self.inside.lone.slots c.args.place.number; room = c.self.inside.lone.room }) c.self.inside.stretches c.self.invariant
    (λ q v e was. none_less g.V.Says g.S.Alone.told c.self.inside.lone.entries c.args.place.number q was)
    (λ q. none_left g.V.Says g.S.Alone.told c.self.inside.lone c.args.place.number q c.self.invariant.placed) refl (omega (arith, less, c.take.ensures.count, c.self.invariant.few)))

pub returns-clause-entry : goal.returns-clause-entry
returns-clause-entry g c = (cell_alone g.V.Says g.S.Alone.told c.self.inside.lone c.self.inside.stretches c.args.self.now c.self.view_is c.self.invariant c.args.place.number _ c.take.ensures.entry).0

pub returns-clause-removed : goal.returns-clause-removed
returns-clause-removed g c =
    let none = (cell_alone g.V.Says g.S.Alone.told c.self.inside.lone c.self.inside.stretches c.args.self.now c.self.view_is c.self.invariant c.args.place.number _ c.take.ensures.entry).1 in
    seen g.V.Says g.S.Alone.told _ _ _ _ _ _ _ _ _ _
    (ap (λ (l : Lone _). (the_mixed g.V.Says g.S.Alone.told l c.self.inside.stretches).cells) c.take.ensures.taken
    ∙ told_remove g.V.Says g.S.Alone.told c.self.inside.lone.entries c.self.inside.stretches.list c.args.place.number none
    ∙ ap (λ (v : Mixed _ _). map.remove v.cells c.args.place.number) c.self.view_is)
    (ap (λ (l : Lone _). l.slots) c.take.ensures.taken ∙ ap (λ (v : Mixed _ _). map.remove v.slots c.args.place.number) c.self.view_is)
    (ap (λ (v : Mixed _ _). v.list) c.self.view_is)
    refl
    (ap (λ (l : Lone _). l.room) c.take.ensures.taken ∙ ap (λ (v : Mixed _ _). v.room) c.self.view_is)
