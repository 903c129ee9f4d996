use Rattle.std.proofs.Common.{◌≡◌, ◌+◌, ℕ, get_or, sym, ap, ◌∙◌, arith}
use Rattle.std.proofs.lemmas.Bool.{ltb-true}
use Rattle.stretches.specs.Leaves.{entries}
use Rattle.stretches.specs.Spots.{index}
use Rattle.stretches.proofs.Leaves.Held.{held_within}
use Rattle.stretches.proofs.Reading.Order.{behind_between, behind_has}
use Rattle.stretches.proofs.lookup.is_last_by.Goals as goal

pub returns-then-stretch-number : goal.returns-then-stretch-number
returns-then-stretch-number g c = λ less.
    let l = c.args.stretches.now in
    let at = index l c.args.spot in
    let next = c.in-Some.ensures in
    let is_next : get_or (entries l) (at + 1) c.get.result ≡ c.get.result = ap (λ (k : ℕ). get_or (entries l) k c.get.result) (sym next.1) ∙ sym c.get.ensures in
    behind_between g.V.Says (entries l) c.requires.order c.args.number at c.get-stretch.result c.get.result (omega (arith, held_within l c.in-Some.next next.0, next.1))
    (sym c.get-stretch.ensures) is_next (omega (arith, c.if-stretch-number.true)) (ltb-true _ _ less)

pub returns-in-None : goal.returns-in-None
returns-in-None g c = λ yes.
    let l = c.args.stretches.now in
    behind_has g.V.Says (entries l) c.requires.order c.args.number (index l c.args.spot) (c.has_at.ensures.0 yes)
