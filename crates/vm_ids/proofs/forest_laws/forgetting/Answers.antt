-- Each law as it is proved.
use Rattle.vm_ids.proofs.Forest.Laws.Forgetting.{destroy_forgets, copy_forgets, move_forgets, invalidate_forgets}
use Rattle.vm_ids.proofs.forest_laws.forgetting.Goals as goal

pub returns-clause-destroy_forgets : goal.returns-clause-destroy_forgets
returns-clause-destroy_forgets g c = destroy_forgets

pub returns-clause-copy_forgets : goal.returns-clause-copy_forgets
returns-clause-copy_forgets g c = copy_forgets

pub returns-clause-move_forgets : goal.returns-clause-move_forgets
returns-clause-move_forgets g c = move_forgets

pub returns-clause-invalidate_forgets : goal.returns-clause-invalidate_forgets
returns-clause-invalidate_forgets g c = invalidate_forgets
