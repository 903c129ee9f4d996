use Rattle.std.proofs.Common.{ℕ, ◌∙◌, ap, sym, subst, get_or, arith}
use Rattle.std.proofs.lemmas.Bool.{false≢true}
use Rattle.stretches.specs.Leaves.{entries}
use Rattle.stretches.specs.Spots.{index}
use Rattle.stretches.specs.Stretch.{IsFit}
use Rattle.stretches.proofs.Leaves.Held.{held_within}
use Rattle.stretches.proofs.Reading.Meeting.{pair_meets, place_of_meeting}
use Rattle.stretches.proofs.Reading.Order.{fit_at}
use Rattle.stretches.proofs.bounds.join_before.Goals as goal
use Rattle.stretches.proofs.bounds.join_before.Goals.{else-next-number-via-then-next-number+else-can_join, else-next-number-via-else-next-number}

pub can_join-requires : goal.can_join-requires
can_join-requires g c = subst (IsFit g.V.Says) (sym c.get-stretch.ensures) (fit_at g.V.Says 0 _ c.requires _ c.get-stretch.result (held_within c.args.stretches.now c.in-Some.pair.first c.in-Some.ensures.0.first))

pub join-requires-clause-next : goal.join-requires-clause-next
join-requires-clause-next g c = sym (c.get-next.ensures ∙ ap (λ (q : ℕ). get_or (entries c.args.stretches.now) q c.get-next.result) c.in-Some.ensures.0.next)

-- the two that meet could be joined
pub returns-else-next-number-clause-joined : goal.returns-else-next-number-clause-joined
returns-else-next-number-clause-joined g c meets =
    let l = c.args.stretches.now in
    let pair = c.in-Some.ensures.0 in
    let next = c.get-next.ensures ∙ ap (λ (q : ℕ). get_or (entries l) q c.get-next.result) pair.next in
    let facts = pair_meets g.V.Says (entries l) c.requires c.args.number (index l c.in-Some.pair.first) c.in-Some.ensures.1 meets c.get-stretch.result c.get-next.result c.get-stretch.ensures next in
    elim c.else-next-number.branch [
      | else-next-number-via-then-next-number+else-can_join w ↦ absurd (false≢true (sym w.if-can_join.false ∙ w.can_join.ensures.1 facts.1))
      | else-next-number-via-else-next-number w ↦ absurd (w.if-next-number.false facts.0)
    ]

pub returns-in_default-clause-joined : goal.returns-in_default-clause-joined
returns-in_default-clause-joined g c meets =
    let place = c.in_default.ensures in
    absurd (omega (arith, place_of_meeting g.V.Says (entries c.args.stretches.now) c.requires c.args.number place.0 place.1.0 meets, place.1.1))
