-- Each law as it is proved.
use Rattle.vm_ids.proofs.Forest.Laws.Writing.{write_keeps_consistency, write_keeps_bound, write_changes_its_node, write_keeps_other_values, write_owns_the_page, write_leaves_no_heir, write_counts_at_most_two_copies}
use Rattle.vm_ids.proofs.forest_laws.writing.Goals as goal

pub returns-clause-write_keeps_consistency : goal.returns-clause-write_keeps_consistency
returns-clause-write_keeps_consistency g c = write_keeps_consistency

pub returns-clause-write_keeps_bound : goal.returns-clause-write_keeps_bound
returns-clause-write_keeps_bound g c = write_keeps_bound

pub returns-clause-write_changes_its_node : goal.returns-clause-write_changes_its_node
returns-clause-write_changes_its_node g c = write_changes_its_node

pub returns-clause-write_keeps_other_values : goal.returns-clause-write_keeps_other_values
returns-clause-write_keeps_other_values g c = write_keeps_other_values

pub returns-clause-write_owns_the_page : goal.returns-clause-write_owns_the_page
returns-clause-write_owns_the_page g c = write_owns_the_page

pub returns-clause-write_leaves_no_heir : goal.returns-clause-write_leaves_no_heir
returns-clause-write_leaves_no_heir g c = write_leaves_no_heir

pub returns-clause-write_counts_at_most_two_copies : goal.returns-clause-write_counts_at_most_two_copies
returns-clause-write_counts_at_most_two_copies g c = write_counts_at_most_two_copies
