-- Each law as it is proved.
use Rattle.vm_ids.proofs.Forest.Laws.Copying.{no_forest_is_consistent, no_forest_is_bounded, make_keeps_consistency, make_keeps_bound, make_gives_pages}
use Rattle.vm_ids.proofs.forest_laws.making.Goals as goal

pub returns-clause-no_forest_is_consistent : goal.returns-clause-no_forest_is_consistent
returns-clause-no_forest_is_consistent g c = no_forest_is_consistent _

pub returns-clause-no_forest_is_bounded : goal.returns-clause-no_forest_is_bounded
returns-clause-no_forest_is_bounded g c = no_forest_is_bounded _

pub returns-clause-make_keeps_consistency : goal.returns-clause-make_keeps_consistency
returns-clause-make_keeps_consistency g c = make_keeps_consistency

pub returns-clause-make_keeps_bound : goal.returns-clause-make_keeps_bound
returns-clause-make_keeps_bound g c = make_keeps_bound

pub returns-clause-make_gives_pages : goal.returns-clause-make_gives_pages
returns-clause-make_gives_pages g c = make_gives_pages
