-- Each law as it is proved.
use Rattle.vm_ids.proofs.Forest.Laws.Commands.{invalidate_keeps_consistency, invalidate_gives_pages, invalidate_bounds, invalidate_settles, invalidate_counts_saves}
use Rattle.vm_ids.proofs.forest_laws.invalidating.Goals as goal

pub returns-clause-invalidate_keeps_consistency : goal.returns-clause-invalidate_keeps_consistency
returns-clause-invalidate_keeps_consistency g c = invalidate_keeps_consistency

pub returns-clause-invalidate_gives_pages : goal.returns-clause-invalidate_gives_pages
returns-clause-invalidate_gives_pages g c = invalidate_gives_pages

pub returns-clause-invalidate_bounds : goal.returns-clause-invalidate_bounds
returns-clause-invalidate_bounds g c = invalidate_bounds

pub returns-clause-invalidate_settles : goal.returns-clause-invalidate_settles
returns-clause-invalidate_settles g c = invalidate_settles

pub returns-clause-invalidate_counts_saves : goal.returns-clause-invalidate_counts_saves
returns-clause-invalidate_counts_saves g c = invalidate_counts_saves
