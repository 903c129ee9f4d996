use Rattle.std.proofs.Common.{sym, ◌∙◌}
use Rattle.actor_script.specs.Words.{words_of}
use Rattle.actor_script.proofs.Forms.{no_other}
use Rattle.actor_script.proofs.reading.lines.read_verb.Goals as goal

pub returns-in_err-operands : goal.returns-in_err-operands
returns-in_err-operands c =
    c.from_residual-in_err-operands.ensures ∙ sym (no_other c.args.word.now (words_of c.args.operands.now) c.in_err-operands.ensures)
