use Rattle.std.proofs.Common.{◌≡◌, ◌+◌, ◌<◌, refl, sym, ap, subst, ◌∙◌, arith}
use Rattle.std.specs.FinMap as map
use Rattle.stretches.specs.Stretches.{number_count}
use Rattle.mixed_map.specs.Lone.{Lone}
use Rattle.mixed_map.specs.Mixed.{IsMixed, Mixed}
use Rattle.mixed_map.proofs.Maps.{insert_other}
use Rattle.mixed_map.proofs.Telling.{get_seen, mixed_changed, none_both, none_of, none_set, seen, the_mixed, told_insert}
use Rattle.mixed_map.proofs.mixed_map.MixedMap.insert.Goals as goal

pub insert-requires-clause-vacant : goal.insert-requires-clause-vacant
insert-requires-clause-vacant g c =
    (none_both g.V.Says g.S.Alone.told _ _ (sym (get_seen g.V.Says g.S.Alone.told c.self.inside.lone c.self.inside.stretches c.args.self.now c.self.view_is c.args.number) ∙ c.requires.vacant)).1

pub invariant_of-self : goal.invariant_of-self
invariant_of-self g c =
    let none = none_both g.V.Says g.S.Alone.told _ _ (sym (get_seen g.V.Says g.S.Alone.told c.self.inside.lone c.self.inside.stretches c.args.self.now c.self.view_is c.args.number) ∙ c.requires.vacant) in
    let more : map.len (map.insert c.self.inside.lone.slots c.args.number c.insert.result.slot) ≡ map.len c.self.inside.lone.slots + 1 = sym (ap (λ (l : Lone _). map.len l.slots) c.insert.ensures.inserted) ∙ c.insert.ensures.count in
    let room : map.len c.self.inside.lone.slots + number_count c.self.inside.stretches.list < c.self.inside.lone.room = subst (λ (v : Mixed _ _). v.count < v.room) (sym c.self.view_is) c.requires.room in
    subst (λ (l : Lone _). IsMixed g.V.Says l c.self.inside.stretches) (sym c.insert.ensures.inserted)
    (mixed_changed g.V.Says g.S.Alone.told c.self.inside.lone (record { entries = map.insert c.self.inside.lone.entries c.args.number c.args.entry; slots = map.insert c.self.inside.lone.slots c.args.number c.insert.result.slot; room = c.self.inside.lone.room }) c.self.inside.stretches c.self.invariant
    (none_of g.V.Says g.S.Alone.told c.self.inside.lone.entries c.self.inside.stretches.list c.args.number c.args.entry none.0)
    (λ q e. let was = none_set g.V.Says g.S.Alone.told c.self.inside.lone.entries c.args.number c.args.entry q e in insert_other c.self.inside.lone.slots c.args.number c.insert.result.slot q was.0 ∙ c.self.invariant.placed q was.1)
    refl (omega (arith, room, more)))

pub returns-clause-inserted : goal.returns-clause-inserted
returns-clause-inserted g c =
    let none = none_both g.V.Says g.S.Alone.told _ _ (sym (get_seen g.V.Says g.S.Alone.told c.self.inside.lone c.self.inside.stretches c.args.self.now c.self.view_is c.args.number) ∙ c.requires.vacant) in
    let more : map.len (map.insert c.self.inside.lone.slots c.args.number c.insert.result.slot) ≡ map.len c.self.inside.lone.slots + 1 = sym (ap (λ (l : Lone _). map.len l.slots) c.insert.ensures.inserted) ∙ c.insert.ensures.count in
    let count : map.len c.self.inside.lone.slots + number_count c.self.inside.stretches.list ≡ c.args.self.now.count = ap (λ (v : Mixed _ _). v.count) c.self.view_is in
    ap (λ (l : Lone _). the_mixed g.V.Says g.S.Alone.told l c.self.inside.stretches) c.insert.ensures.inserted
    ∙ seen g.V.Says g.S.Alone.told _ _ _ _ _ _ _ _ _ _
    (told_insert g.V.Says g.S.Alone.told c.self.inside.lone.entries c.self.inside.stretches.list c.args.number c.args.entry none.0 ∙ ap (λ (v : Mixed _ _). map.insert v.cells c.args.number c.args.entry) c.self.view_is)
    (ap (λ (v : Mixed _ _). map.insert v.slots c.args.number c.insert.result.slot) c.self.view_is)
    (ap (λ (v : Mixed _ _). v.list) c.self.view_is)
    (omega (arith, count, more))
    (ap (λ (v : Mixed _ _). v.room) c.self.view_is)
