use Rattle.vm_model.specs.Asking.{IsWellFormed}
use Rattle.actor_script.proofs.WellFormed.{read_form, form}
use Rattle.actor_script.proofs.reading.lines.read_other.Goals as goal

pub returns-clause-well_formed : goal.returns-clause-well_formed
returns-clause-well_formed c = rw c.ok_or.ensures.value (rw c.read_form.ensures (read_form IsWellFormed _ (form _)))
