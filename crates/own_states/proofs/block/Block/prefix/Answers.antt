use Rattle.std.proofs.Common.{◌≡◌, ◌+◌, ℕ, inl, inr, sym, ap, ◌∙◌, arith}
use Rattle.std.proofs.lemmas.Bool.{cases_eq}
use Rattle.own_states.specs.Blocks.{state_at}
use Rattle.own_states.specs.Kinds.{is_among}
use Rattle.own_states.proofs.block.Block.prefix.Goals as goal

pub loop-done-preserved : goal.loop-done-preserved
loop-done-preserved c = record {
  within = omega (arith, c.loop-done-test.true);
  alike = λ k less. elim (cases_eq k c.loop-done.done) [
    | inl at ↦
        ap (λ (j : ℕ). is_among c.args.kinds (state_at c.args.self.now.codes (c.args.from + j))) at
        ∙ ap (is_among c.args.kinds) (sym c.state.ensures.state) ∙ sym c.has_some.ensures ∙ c.if-not-has_some.false
    | inr other ↦ c.loop-done.invariant.alike k (omega (arith, less, other))
  ];
}

pub returns-then-not-has_some-clause-ends : goal.returns-then-not-has_some-clause-ends
returns-then-not-has_some-clause-ends c _ = ap (is_among c.args.kinds) (sym c.state.ensures.state) ∙ sym c.has_some.ensures ∙ c.if-not-has_some.true
