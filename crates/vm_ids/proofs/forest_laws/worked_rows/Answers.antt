-- Each row as it is computed.
use Rattle.vm_ids.proofs.Forest.Rows.{tree_copy_of_nine_pages, copied_three_times, small_copies, there_and_back, copy_of_a_copy, dead_source_then_a_merge, locked_copies, move_of_a_copied_page, forked_three_times, invalidated, a_save_fails, forgotten_page, tree_child_before_stubs, move_inside_one_cache, merge_under_a_stub, working_node_keeps_the_place, settled_child_takes_the_place}
use Rattle.vm_ids.proofs.forest_laws.worked_rows.Goals as goal

pub returns-clause-tree_copy_of_nine_pages : goal.returns-clause-tree_copy_of_nine_pages
returns-clause-tree_copy_of_nine_pages c = tree_copy_of_nine_pages

pub returns-clause-copied_three_times : goal.returns-clause-copied_three_times
returns-clause-copied_three_times c = copied_three_times

pub returns-clause-small_copies : goal.returns-clause-small_copies
returns-clause-small_copies c = small_copies

pub returns-clause-there_and_back : goal.returns-clause-there_and_back
returns-clause-there_and_back c = there_and_back

pub returns-clause-copy_of_a_copy : goal.returns-clause-copy_of_a_copy
returns-clause-copy_of_a_copy c = copy_of_a_copy

pub returns-clause-dead_source_then_a_merge : goal.returns-clause-dead_source_then_a_merge
returns-clause-dead_source_then_a_merge c = dead_source_then_a_merge

pub returns-clause-locked_copies : goal.returns-clause-locked_copies
returns-clause-locked_copies c = locked_copies

pub returns-clause-move_of_a_copied_page : goal.returns-clause-move_of_a_copied_page
returns-clause-move_of_a_copied_page c = move_of_a_copied_page

pub returns-clause-forked_three_times : goal.returns-clause-forked_three_times
returns-clause-forked_three_times c = forked_three_times

pub returns-clause-invalidated : goal.returns-clause-invalidated
returns-clause-invalidated c = invalidated

pub returns-clause-a_save_fails : goal.returns-clause-a_save_fails
returns-clause-a_save_fails c = a_save_fails

pub returns-clause-forgotten_page : goal.returns-clause-forgotten_page
returns-clause-forgotten_page c = forgotten_page

pub returns-clause-tree_child_before_stubs : goal.returns-clause-tree_child_before_stubs
returns-clause-tree_child_before_stubs c = tree_child_before_stubs

pub returns-clause-move_inside_one_cache : goal.returns-clause-move_inside_one_cache
returns-clause-move_inside_one_cache c = move_inside_one_cache

pub returns-clause-merge_under_a_stub : goal.returns-clause-merge_under_a_stub
returns-clause-merge_under_a_stub c = merge_under_a_stub

pub returns-clause-working_node_keeps_the_place : goal.returns-clause-working_node_keeps_the_place
returns-clause-working_node_keeps_the_place c = working_node_keeps_the_place

pub returns-clause-settled_child_takes_the_place : goal.returns-clause-settled_child_takes_the_place
returns-clause-settled_child_takes_the_place c = settled_child_takes_the_place
