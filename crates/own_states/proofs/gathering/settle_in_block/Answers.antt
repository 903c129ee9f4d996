use Rattle.std.proofs.Common.{◌≡◌, ◌+◌, ◌<◌, ℕ, sym, ap, subst, ◌∙◌, arith}
use Rattle.std.specs.Prelude.{IsSome, is_some, not}
use Rattle.std.specs.FinMap as map
use Rattle.own_states.proofs.Joined.{said_of}
use Rattle.own_states.proofs.gathering.settle_in_block.Goals as goal

pub returns-else-is_none-clause-none : goal.returns-else-is_none-clause-none
returns-else-is_none-clause-none c =
    let b = c.args.blocks.now in
    let n = c.args.number in
    let some : IsSome (map.get b.states n) = ap is_some (sym c.get.ensures.state) ∙ c.is_none.ensures ∙ ap not c.if-is_none.false in
    said_of b c.args.plain.now c.requires n 1 (λ k less. (let at : n ≡ n + k = omega (arith, less) in subst (λ (q : ℕ). IsSome (map.get b.states q)) at some)) n (omega arith) (omega arith)
