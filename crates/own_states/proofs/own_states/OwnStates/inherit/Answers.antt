use Rattle.std.proofs.Common.{◌≡◌, ◌+◌, ℕ, ap, ◌∙◌, arith}
use Rattle.own_states.specs.Heirs.{inherited}
use Rattle.own_states.specs.States.{States}
use Rattle.own_states.proofs.Heirs.{inherited_more}
use Rattle.own_states.proofs.own_states.OwnStates.inherit.Goals as goal

pub loop-done-preserved : goal.loop-done-preserved
loop-done-preserved c =
    let now = c.args.self.now in
    let done = c.loop-done.done in
    let some = c.inherit_some-done.result in record {
      within = omega (arith, c.inherit_some-done.ensures.within, c.loop-done-test.true);
      inherited = c.inherit_some-done.ensures.inherited
          ∙ ap (λ (v : States). record v { states = inherited v.states (c.args.to + done) (c.args.from + done) some }) c.loop-done.invariant.inherited
          ∙ (λ i. record now { states = inherited_more now.states c.args.to c.args.from done some i });
    }

pub returns : goal.returns
returns c =
    let all : c.loop-done.done ≡ c.args.count = omega (arith, c.loop-done.invariant.within, c.loop-done-test.false) in
    c.loop-done.invariant.inherited ∙ ap (λ (k : ℕ). record c.args.self.now { states = inherited c.args.self.now.states c.args.to c.args.from k }) all
