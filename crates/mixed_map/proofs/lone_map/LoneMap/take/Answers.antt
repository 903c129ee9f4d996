use Rattle.std.proofs.Common.{◌≤◌, sym, ap, subst, ◌∙◌, arith}
use Rattle.std.specs.FinMap as map
use Rattle.linear_index.specs.Entered.{Entered}
use Rattle.mixed_map.specs.Lone.{filled, IsKept, Lone}
use Rattle.mixed_map.proofs.Maps.{len_less, len_some}
use Rattle.mixed_map.proofs.Filling.{entry_at, filled_less, placed, seen, the_lone}
use Rattle.mixed_map.proofs.Keeping.{alone, given_back}
use Rattle.mixed_map.proofs.lone_map.LoneMap.take.Goals as goal

pub invariant_of-self : goal.invariant_of-self
invariant_of-self g c =
    let slots = c.self.inside.slots in
    let places = c.self.inside.index.places in
    let at = placed slots places c.args.self.now _ c.self.view_is c.args.place.number c.args.place.slot c.requires in
    subst (λ (e : Entered). (c.self.inside.room ≤ e.room) × IsKept e.places c.remove.new.self c.self.inside.room) (sym c.leave.ensures) (
      c.self.invariant.0,
      given_back places slots c.self.inside.room c.self.invariant.1 c.remove.new.self c.args.place.number c.args.place.slot at c.remove.ensures.updates c.remove.ensures.len c.remove.ensures.capacity,
    )

pub returns-clause-entry : goal.returns-clause-entry
returns-clause-entry g c =
    entry_at c.self.inside.slots c.self.inside.index.places c.args.self.now _ c.self.view_is c.args.place.number c.args.place.slot c.requires ∙ c.remove.ensures.value

pub returns-clause-taken : goal.returns-clause-taken
returns-clause-taken g c =
    let n = c.args.place.number in
    let p = c.args.place.slot in
    let slots = c.self.inside.slots in
    let places = c.self.inside.index.places in
    let at = placed slots places c.args.self.now _ c.self.view_is n p c.requires in
    ap (λ (e : Entered). the_lone (filled c.remove.new.self (map.entries e.places)) e.places c.self.inside.room) c.leave.ensures
    ∙ seen _ _ _ _ _ _
    (filled_less slots c.remove.new.self places n p (alone places slots c.self.inside.room c.self.invariant.1 n p at) c.remove.ensures.updates
    ∙ ap (λ (l : Lone _). map.remove l.entries n) c.self.view_is)
    (ap (λ (l : Lone _). map.remove l.slots n) c.self.view_is)
    (ap (λ (l : Lone _). l.room) c.self.view_is)

pub returns-clause-count : goal.returns-clause-count
returns-clause-count g c =
    let less = ap (λ (l : Lone _). map.len l.slots) (returns-clause-taken g c) ∙ len_less c.args.self.now.slots c.args.place.number c.args.place.slot c.requires in
    omega (arith, less, len_some c.args.self.now.slots c.args.place.number c.args.place.slot c.requires)
