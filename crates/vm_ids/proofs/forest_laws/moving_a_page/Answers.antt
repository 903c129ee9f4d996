-- Each law as it is proved.
use Rattle.vm_ids.proofs.Forest.Laws.Linking.{move_page_keeps_consistency, move_page_gives_the_value, move_page_leaves_zeros, move_page_keeps_other_values, move_page_counts_no_copy}
use Rattle.vm_ids.proofs.forest_laws.moving_a_page.Goals as goal

pub returns-clause-move_page_keeps_consistency : goal.returns-clause-move_page_keeps_consistency
returns-clause-move_page_keeps_consistency g c = move_page_keeps_consistency

pub returns-clause-move_page_gives_the_value : goal.returns-clause-move_page_gives_the_value
returns-clause-move_page_gives_the_value g c = move_page_gives_the_value

pub returns-clause-move_page_leaves_zeros : goal.returns-clause-move_page_leaves_zeros
returns-clause-move_page_leaves_zeros g c = move_page_leaves_zeros

pub returns-clause-move_page_keeps_other_values : goal.returns-clause-move_page_keeps_other_values
returns-clause-move_page_keeps_other_values g c = move_page_keeps_other_values

pub returns-clause-move_page_counts_no_copy : goal.returns-clause-move_page_counts_no_copy
returns-clause-move_page_counts_no_copy g c = move_page_counts_no_copy
