-- Each law as it is proved.
use Rattle.vm_ids.proofs.Forest.Laws.Commands.{lock_keeps_consistency, lock_keeps_bound, lock_keeps_values, lock_owns_pages, lock_counts_its_pages}
use Rattle.vm_ids.proofs.forest_laws.locking.Goals as goal

pub returns-clause-lock_keeps_consistency : goal.returns-clause-lock_keeps_consistency
returns-clause-lock_keeps_consistency g c = lock_keeps_consistency

pub returns-clause-lock_keeps_bound : goal.returns-clause-lock_keeps_bound
returns-clause-lock_keeps_bound g c = lock_keeps_bound

pub returns-clause-lock_keeps_values : goal.returns-clause-lock_keeps_values
returns-clause-lock_keeps_values g c = lock_keeps_values

pub returns-clause-lock_owns_pages : goal.returns-clause-lock_owns_pages
returns-clause-lock_owns_pages g c = lock_owns_pages

pub returns-clause-lock_counts_its_pages : goal.returns-clause-lock_counts_its_pages
returns-clause-lock_counts_its_pages g c = lock_counts_its_pages
