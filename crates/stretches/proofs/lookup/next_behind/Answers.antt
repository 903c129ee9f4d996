use Rattle.std.proofs.Common.{ℕ, ◌<◌, ◌∙◌, ap, subst, sym, arith, get_or, length}
use Rattle.stretches.specs.Leaves.{entries}
use Rattle.stretches.specs.Spots.{index}
use Rattle.stretches.proofs.Leaves.Held.{held_within}
use Rattle.stretches.proofs.Reading.Next.{next_behind, none_behind}
use Rattle.stretches.proofs.Reading.Numbers.{any_default}
use Rattle.stretches.proofs.Nothing.{match_none}
use Rattle.stretches.proofs.lookup.next_behind.Goals as goal

pub returns-clause-next : goal.returns-clause-next
returns-clause-next g c =
    let l = c.args.stretches.now in
    let within = subst (λ (q : ℕ). q < length (entries l)) c.in_ok-spot.ensures.1 (held_within l c.in_ok-spot.spot c.in_ok-spot.ensures.0) in
    let is = c.get.ensures ∙ ap (λ (q : ℕ). get_or (entries l) q c.get.result) c.in_ok-spot.ensures.1 in
    next_behind g.V.Says _ c.requires.order c.args.number _ c.first_behind-at.ensures.behind c.requires.none c.get.result within is

pub returns-clause-stands : goal.returns-clause-stands
returns-clause-stands g c =
    let l = c.args.stretches.now in
    let at = index l c.in_ok-spot.spot in
    let within = held_within l c.in_ok-spot.spot c.in_ok-spot.ensures.0 in
    record { at = at; within = within; is = λ d. any_default _ at d _ within ∙ sym c.get.ensures }

pub returns-in_err-spot-clause-next : goal.returns-in_err-spot-clause-next
returns-in_err-spot-clause-next g c =
    match_none _ c.from_residual.result c.from_residual.ensures
    (none_behind g.V.Says _ c.requires.order c.args.number _ c.first_behind-at.ensures.behind c.requires.none (omega (arith, c.in_err-spot.ensures)))
