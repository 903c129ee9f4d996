use Rattle.std.proofs.Common.{arith}
use Rattle.actor_script.proofs.Accesses.{too_long, of_verb, one_word}
use Rattle.actor_script.proofs.reading.accesses.read_access.Goals as goal

pub returns-then-line-gt-LONGEST_LINE : goal.returns-then-line-gt-LONGEST_LINE
returns-then-line-gt-LONGEST_LINE c = too_long c.args.line.now (omega arith)

pub returns-in_err-verb : goal.returns-in_err-verb
returns-in_err-verb c = rw c.from_residual.ensures (one_word c.args.line.now c.in_err-verb.ensures.words (omega arith))

pub returns : goal.returns
returns c = of_verb c.args.line.now _ _ c.in_ok-verb.ensures.words (omega arith) c.read_verb.result c.read_verb.ensures
