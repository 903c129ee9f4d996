use Rattle.std.proofs.Common.{◌≡◌, ◌+◌, ◌-◌, ◌<◌, ◌≤◌, ℕ, inl, inr, ◌∙◌, arith}
use Rattle.std.specs.Prelude.{◌%◌}
use Rattle.std.proofs.lemmas.Bool.{cases_lt}
use Rattle.own_states.proofs.gathering.gather.Goals as goal

pub loop-done-preserved : goal.loop-done-preserved
loop-done-preserved c = record {
  within = omega (arith, c.loop-done.invariant.within, c.gather_some-done.ensures.within, c.loop-done-test.true);
  apart = c.gather_some-done.ensures.apart;
  states = c.gather_some-done.ensures.states ∙ c.loop-done.invariant.states;
  none = λ n from to. elim (cases_lt n (c.args.number - c.args.number % 32 + c.loop-done.done)) [
    | inl before ↦ c.gather_some-done.ensures.no_more n (c.loop-done.invariant.none n from before)
    | inr behind ↦ c.gather_some-done.ensures.none n behind (omega (arith, to))
  ];
}

pub returns-clause-none : goal.returns-clause-none
returns-clause-none c = c.loop-done.invariant.none c.args.number (omega arith) (omega (arith, c.loop-done.invariant.within, c.loop-done-test.false))
