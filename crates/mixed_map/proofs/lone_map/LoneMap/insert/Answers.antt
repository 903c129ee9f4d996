use Rattle.std.proofs.Common.{◌+◌, ◌≤◌, refl, sym, ap, subst, ◌∙◌}
use Rattle.std.specs.FinMap as map
use Rattle.linear_index.specs.Entered.{Entered}
use Rattle.mixed_map.specs.Lone.{filled, IsKept, Lone}
use Rattle.mixed_map.proofs.Maps.{len_more}
use Rattle.mixed_map.proofs.Filling.{filled_more, seen, the_lone, unplaced}
use Rattle.mixed_map.proofs.Keeping.{fresh, taken}
use Rattle.mixed_map.proofs.lone_map.LoneMap.insert.Goals as goal

pub enter-requires-clause-new_key : goal.enter-requires-clause-new_key
enter-requires-clause-new_key g c =
    unplaced c.self.inside.slots c.self.inside.index.places c.args.self.now _ c.self.view_is c.args.number (c.self.invariant.1.within c.args.number) c.requires.vacant

pub enter-requires-clause-free : goal.enter-requires-clause-free
enter-requires-clause-free g c other e =
    fresh c.self.inside.index.places c.self.inside.slots c.self.inside.room c.self.invariant.1 c.insert_reserved-slot.result c.insert_reserved-slot.ensures.was_vacant other _ e refl

pub invariant_of-self : goal.invariant_of-self
invariant_of-self g c =
    let new = c.insert_reserved-slot.ensures in
    subst (λ (e : Entered). (c.self.inside.room ≤ e.room) × IsKept e.places c.insert_reserved-slot.new.self c.self.inside.room) (sym c.enter.ensures) (
      c.self.invariant.0,
      taken c.self.inside.index.places c.self.inside.slots c.self.inside.room c.self.invariant.1 c.insert_reserved-slot.new.self c.args.number c.insert_reserved-slot.result c.args.entry new.was_vacant new.updates new.len new.capacity
          (unplaced c.self.inside.slots c.self.inside.index.places c.args.self.now _ c.self.view_is c.args.number (c.self.invariant.1.within c.args.number) c.requires.vacant),
    )

pub returns-clause-apart : goal.returns-clause-apart
returns-clause-apart g c other e =
    fresh c.self.inside.index.places c.self.inside.slots c.self.inside.room c.self.invariant.1 c.insert_reserved-slot.result c.insert_reserved-slot.ensures.was_vacant other _ (ap (λ (l : Lone _). map.get l.slots other) c.self.view_is ∙ e) refl

pub returns-clause-inserted : goal.returns-clause-inserted
returns-clause-inserted g c =
    let slots = c.self.inside.slots in
    let places = c.self.inside.index.places in
    let place = c.insert_reserved-slot.result in
    let new = c.insert_reserved-slot.new.self in
    ap (λ (e : Entered). the_lone (filled new (map.entries e.places)) e.places c.self.inside.room) c.enter.ensures
    ∙ seen _ _ _ _ _ _
    (filled_more slots new places c.args.number place (λ q r other. fresh places slots c.self.inside.room c.self.invariant.1 place c.insert_reserved-slot.ensures.was_vacant q r) c.args.entry c.insert_reserved-slot.ensures.updates
    ∙ ap (λ (l : Lone _). map.insert l.entries c.args.number c.args.entry) c.self.view_is)
    (ap (λ (l : Lone _). map.insert l.slots c.args.number place) c.self.view_is)
    (ap (λ (l : Lone _). l.room) c.self.view_is)

pub returns-clause-count : goal.returns-clause-count
returns-clause-count g c =
    let none = unplaced c.self.inside.slots c.self.inside.index.places c.args.self.now _ c.self.view_is c.args.number (c.self.invariant.1.within c.args.number) c.requires.vacant in
    ap (λ (e : Entered). map.len e.places) c.enter.ensures
    ∙ len_more c.self.inside.index.places c.args.number c.insert_reserved-slot.result none
    ∙ ap (λ (l : Lone _). map.len l.slots + 1) c.self.view_is
