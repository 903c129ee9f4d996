use Rattle.std.proofs.Common.{sym, ◌∙◌}
use Rattle.std.proofs.lemmas.List.{take_rest}
use Rattle.actor_script.proofs.Splitting.{words_first, words_last}
use Rattle.actor_script.proofs.reading.words.next_word.Goals as goal

pub returns-in_err-end-clause-words : goal.returns-in_err-end-clause-words
returns-in_err-end-clause-words c = rw c.from_residual.ensures (words_last c.args.text.now (sym c.first_space.ensures ∙ c.in_err-end.was))

pub returns-clause-words : goal.returns-clause-words
returns-clause-words c = rw take_rest (words_first c.args.text.now c.in_ok-end.end (sym c.first_space.ensures ∙ c.in_ok-end.was))
