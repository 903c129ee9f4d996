use Rattle.vm_model.proofs.WholeRuns.Barred.{lines_wait, deliveries_go_by_turns, others_are_out_of_order}
use Rattle.vm_model.proofs.WholeRuns.Transit.{two_pages_in_transit, first_of_two_pages_fails}
use Rattle.vm_model.proofs.laws.pages_in_transit.Goals as goal

pub returns-clause-two_pages_in_transit : goal.returns-clause-two_pages_in_transit
returns-clause-two_pages_in_transit c = two_pages_in_transit

pub returns-clause-first_of_two_pages_fails : goal.returns-clause-first_of_two_pages_fails
returns-clause-first_of_two_pages_fails c = first_of_two_pages_fails

pub returns-clause-lines_wait : goal.returns-clause-lines_wait
returns-clause-lines_wait c = lines_wait

pub returns-clause-deliveries_go_by_turns : goal.returns-clause-deliveries_go_by_turns
returns-clause-deliveries_go_by_turns c = deliveries_go_by_turns

pub returns-clause-others_are_out_of_order : goal.returns-clause-others_are_out_of_order
returns-clause-others_are_out_of_order c = others_are_out_of_order
