-- Each law as it is proved.
use Rattle.vm_ids.proofs.Forest.Laws.Linking.{copy_page_keeps_consistency, copy_page_gives_the_value, copy_page_keeps_other_values, copy_page_counts_no_copy}
use Rattle.vm_ids.proofs.forest_laws.copying_a_page.Goals as goal

pub returns-clause-copy_page_keeps_consistency : goal.returns-clause-copy_page_keeps_consistency
returns-clause-copy_page_keeps_consistency g c = copy_page_keeps_consistency

pub returns-clause-copy_page_gives_the_value : goal.returns-clause-copy_page_gives_the_value
returns-clause-copy_page_gives_the_value g c = copy_page_gives_the_value

pub returns-clause-copy_page_keeps_other_values : goal.returns-clause-copy_page_keeps_other_values
returns-clause-copy_page_keeps_other_values g c = copy_page_keeps_other_values

pub returns-clause-copy_page_counts_no_copy : goal.returns-clause-copy_page_counts_no_copy
returns-clause-copy_page_counts_no_copy g c = copy_page_counts_no_copy
