-- Each law as it is proved.
use Rattle.vm_ids.proofs.Forest.Laws.Commands.{destroy_keeps_consistency, destroy_destroys, destroy_bounds, destroy_settles, destroy_counts_saves}
use Rattle.vm_ids.proofs.forest_laws.destroying.Goals as goal

pub returns-clause-destroy_keeps_consistency : goal.returns-clause-destroy_keeps_consistency
returns-clause-destroy_keeps_consistency g c = destroy_keeps_consistency

pub returns-clause-destroy_destroys : goal.returns-clause-destroy_destroys
returns-clause-destroy_destroys g c = destroy_destroys

pub returns-clause-destroy_bounds : goal.returns-clause-destroy_bounds
returns-clause-destroy_bounds g c = destroy_bounds

pub returns-clause-destroy_settles : goal.returns-clause-destroy_settles
returns-clause-destroy_settles g c = destroy_settles

pub returns-clause-destroy_counts_saves : goal.returns-clause-destroy_counts_saves
returns-clause-destroy_counts_saves g c = destroy_counts_saves
