use Rattle.std.proofs.Common.{◌∙◌, ℕ, List, [], ap, sym, arith}
use Rattle.std.specs.Borrow.{Bor}
use Rattle.std.proofs.lemmas.List.{length-map}
use Rattle.replay.proofs.CommandLine.Parting.{at_values, parted, parting_none, put_option, put_other}
use Rattle.replay.proofs.trial_words.part.Goals as goal
use Rattle.replay.proofs.trial_words.part.Goals.{then-is_of_option+in_ok-push, else-is_of_option+in_ok-push-2}

pub loop-word-init : goal.loop-word-init
loop-word-init c = rw (c.new-options.ensures.items, c.new-others.ensures.items) (parting_none _)

pub loop-word-preserved : goal.loop-word-preserved
loop-word-preserved c =
    let words = c.args.words.now in
    let flag = c.loop-word.is_value in
    let none : Bor (List ℕ) = record { ref_ptr = (0, 0); now = [] } in
    elim c.if-is_of_option.branch [
      | then-is_of_option+in_ok-push w ↦
          at_values _ _ _ _ _ _ _ _ (w.is_value-is ∙ w.awaits_value-is_value.ensures) (ap (λ v. v.items) w.options-is ∙ (w.in_ok-push.ensures {u = tt}).items) (ap (λ v. v.items) w.others-is)
          (put_option words c.loop-word.word-index flag _ _ none c.loop-word-test.true c.loop-word.invariant (sym c.is_of_option.ensures ∙ w.if-is_of_option.true))
      | else-is_of_option+in_ok-push-2 w ↦
          at_values _ _ _ _ _ _ _ _ w.is_value-is (ap (λ v. v.items) w.options-is) (ap (λ v. v.items) w.others-is ∙ (w.in_ok-push-2.ensures {u = tt}).items)
          (put_other words c.loop-word.word-index flag _ _ none c.loop-word-test.true c.loop-word.invariant (sym c.is_of_option.ensures ∙ w.if-is_of_option.false))
    ]

pub returns : goal.returns
returns c =
    let done = parted _ c.loop-word.word-index c.loop-word.is_value _ _ (omega (arith, c.loop-word-test.false, length-map c.args.words.now (λ w. w.now))) c.loop-word.invariant in
    record { options = done.0; others = done.1 }
