-- Each law as it is proved.
use Rattle.vm_ids.proofs.Forest.Laws.Linking.{detach_gives_the_page, detach_keeps_consistency, detach_leaves_fresh_node, detach_keeps_other_values, detach_hands_on_the_old_page, detach_counts_no_copy}
use Rattle.vm_ids.proofs.forest_laws.detaching.Goals as goal

pub returns-clause-detach_gives_the_page : goal.returns-clause-detach_gives_the_page
returns-clause-detach_gives_the_page g c = detach_gives_the_page

pub returns-clause-detach_keeps_consistency : goal.returns-clause-detach_keeps_consistency
returns-clause-detach_keeps_consistency g c = detach_keeps_consistency

pub returns-clause-detach_leaves_fresh_node : goal.returns-clause-detach_leaves_fresh_node
returns-clause-detach_leaves_fresh_node g c = detach_leaves_fresh_node

pub returns-clause-detach_keeps_other_values : goal.returns-clause-detach_keeps_other_values
returns-clause-detach_keeps_other_values g c = detach_keeps_other_values

pub returns-clause-detach_hands_on_the_old_page : goal.returns-clause-detach_hands_on_the_old_page
returns-clause-detach_hands_on_the_old_page g c = detach_hands_on_the_old_page

pub returns-clause-detach_counts_no_copy : goal.returns-clause-detach_counts_no_copy
returns-clause-detach_counts_no_copy g c = detach_counts_no_copy
