-- Each law as it is proved.
use Rattle.vm_ids.proofs.Forest.Laws.Linking.{link_keeps_consistency, link_gives_the_value, link_keeps_other_values, link_counts_no_copy}
use Rattle.vm_ids.proofs.forest_laws.linking.Goals as goal

pub returns-clause-link_keeps_consistency : goal.returns-clause-link_keeps_consistency
returns-clause-link_keeps_consistency g c = link_keeps_consistency

pub returns-clause-link_gives_the_value : goal.returns-clause-link_gives_the_value
returns-clause-link_gives_the_value g c = link_gives_the_value

pub returns-clause-link_keeps_other_values : goal.returns-clause-link_keeps_other_values
returns-clause-link_keeps_other_values g c = link_keeps_other_values

pub returns-clause-link_counts_no_copy : goal.returns-clause-link_counts_no_copy
returns-clause-link_counts_no_copy g c = link_counts_no_copy
