-- Each law as it is proved.
use Rattle.vm_ids.proofs.Forest.Laws.Owning.{own_keeps_consistency, own_keeps_bound, own_keeps_values, own_gives_page, own_counts_one_copy}
use Rattle.vm_ids.proofs.forest_laws.owning.Goals as goal

pub returns-clause-own_keeps_consistency : goal.returns-clause-own_keeps_consistency
returns-clause-own_keeps_consistency g c = own_keeps_consistency

pub returns-clause-own_keeps_bound : goal.returns-clause-own_keeps_bound
returns-clause-own_keeps_bound g c = own_keeps_bound

pub returns-clause-own_keeps_values : goal.returns-clause-own_keeps_values
returns-clause-own_keeps_values g c = own_keeps_values

pub returns-clause-own_gives_page : goal.returns-clause-own_gives_page
returns-clause-own_gives_page g c = own_gives_page

pub returns-clause-own_counts_one_copy : goal.returns-clause-own_counts_one_copy
returns-clause-own_counts_one_copy g c = own_counts_one_copy
