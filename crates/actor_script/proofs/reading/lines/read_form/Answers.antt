use Rattle.std.proofs.Common.{[], Option, ap, sym, ◌∙◌}
use Rattle.std.specs.Prelude.{option_and_then}
use Rattle.actor_script.specs.declared.reading.verbs.Verb.{Verb}
use Rattle.actor_script.specs.Verbs.{form_for}
use Rattle.actor_script.specs.Words.{words_of}
use Rattle.actor_script.proofs.Accesses.{other_words}
use Rattle.actor_script.proofs.reading.lines.read_form.Goals as goal

pub returns-in-Some : goal.returns-in-Some
returns-in-Some c =
    c.read_verb.ensures
    ∙ other_words c.args.line.now c.in-Some.word.now (words_of c.in-Some.operands.now) c.in-Some.ensures.words c.requires

pub returns-in_err-of-in-None : goal.returns-in_err-of-in-None
returns-in_err-of-in-None c =
    c.from_residual.ensures ∙ sym (c.of.ensures [] ∙ ap (λ (o : Option Verb). option_and_then (λ verb. form_for verb []) o) c.in_err-of-in-None.was)
    ∙ other_words c.args.line.now c.args.line.now [] c.in-None.ensures.words c.requires

pub returns-in_ok-of-in-None : goal.returns-in_ok-of-in-None
returns-in_ok-of-in-None c =
    c.read.ensures ∙ sym (c.of.ensures [] ∙ ap (λ (o : Option Verb). option_and_then (λ verb. form_for verb []) o) c.in_ok-of-in-None.was)
    ∙ other_words c.args.line.now c.args.line.now [] c.in-None.ensures.words c.requires
