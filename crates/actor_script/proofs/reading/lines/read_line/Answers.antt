use Rattle.actor_script.proofs.WellFormed.{well_formed}
use Rattle.actor_script.proofs.reading.lines.read_line.Goals as goal

pub returns-in-Some-clause-well_formed : goal.returns-in-Some-clause-well_formed
returns-in-Some-clause-well_formed c = rw c.command_for.ensures (rw c.in-Some.ensures at (well_formed c.args.line.now))
