use Rattle.std.proofs.Common.{sym}
use Rattle.vm_ids.specs.MixAsking.{IsMixWellFormed}
use Rattle.actor_script.proofs.MixForms.{no_command, formed}
use Rattle.actor_script.proofs.WellFormed.{read_form}
use Rattle.actor_script.proofs.reading.mix.read_mix.Goals as goal

pub returns-in-Some-clause-well_formed : goal.returns-in-Some-clause-well_formed
returns-in-Some-clause-well_formed c = rw c.ok_or.ensures.value (rw c.read_form.ensures (read_form IsMixWellFormed _ (formed _)))

pub returns-in-None-clause-command : goal.returns-in-None-clause-command
returns-in-None-clause-command c = sym (no_command c.args.line.now c.in-None.ensures)
