-- Each law as it is proved.
use Rattle.vm_ids.proofs.Forest.Laws.Owning.{heir_gets_keeps_consistency, heir_gets_keeps_bound, heir_gets_keeps_values, heir_gets_the_page, heir_gets_the_stubs, heir_gets_leaves_no_heir, heir_gets_leaves_no_reader, heir_gets_counts_one_copy}
use Rattle.vm_ids.proofs.forest_laws.handing_on.Goals as goal

pub returns-clause-heir_gets_keeps_consistency : goal.returns-clause-heir_gets_keeps_consistency
returns-clause-heir_gets_keeps_consistency g c = heir_gets_keeps_consistency

pub returns-clause-heir_gets_keeps_bound : goal.returns-clause-heir_gets_keeps_bound
returns-clause-heir_gets_keeps_bound g c = heir_gets_keeps_bound

pub returns-clause-heir_gets_keeps_values : goal.returns-clause-heir_gets_keeps_values
returns-clause-heir_gets_keeps_values g c = heir_gets_keeps_values

pub returns-clause-heir_gets_the_page : goal.returns-clause-heir_gets_the_page
returns-clause-heir_gets_the_page g c = heir_gets_the_page

pub returns-clause-heir_gets_the_stubs : goal.returns-clause-heir_gets_the_stubs
returns-clause-heir_gets_the_stubs g c = heir_gets_the_stubs

pub returns-clause-heir_gets_leaves_no_heir : goal.returns-clause-heir_gets_leaves_no_heir
returns-clause-heir_gets_leaves_no_heir g c = heir_gets_leaves_no_heir

pub returns-clause-heir_gets_leaves_no_reader : goal.returns-clause-heir_gets_leaves_no_reader
returns-clause-heir_gets_leaves_no_reader g c = heir_gets_leaves_no_reader

pub returns-clause-heir_gets_counts_one_copy : goal.returns-clause-heir_gets_counts_one_copy
returns-clause-heir_gets_counts_one_copy g c = heir_gets_counts_one_copy
