-- Each law as it is proved.
use Rattle.vm_ids.proofs.Forest.Laws.Copying.{copy_keeps_consistency, copy_copies, copy_bounds, copy_settles, copy_counts_saves}
use Rattle.vm_ids.proofs.forest_laws.copying.Goals as goal

pub returns-clause-copy_keeps_consistency : goal.returns-clause-copy_keeps_consistency
returns-clause-copy_keeps_consistency g c = copy_keeps_consistency

pub returns-clause-copy_copies : goal.returns-clause-copy_copies
returns-clause-copy_copies g c = copy_copies

pub returns-clause-copy_bounds : goal.returns-clause-copy_bounds
returns-clause-copy_bounds g c = copy_bounds

pub returns-clause-copy_settles : goal.returns-clause-copy_settles
returns-clause-copy_settles g c = copy_settles

pub returns-clause-copy_counts_saves : goal.returns-clause-copy_counts_saves
returns-clause-copy_counts_saves g c = copy_counts_saves
