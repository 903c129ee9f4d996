use Rattle.std.proofs.Common.{sym}
use Rattle.actor_script.proofs.KeepForms.{not_own}
use Rattle.actor_script.proofs.reading.keep.read_own.Goals as goal

pub returns-in-None : goal.returns-in-None
returns-in-None c = sym (not_own c.args.line.now c.in-None.ensures)
