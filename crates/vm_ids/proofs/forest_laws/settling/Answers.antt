-- Each law as it is proved.
use Rattle.vm_ids.proofs.Forest.Laws.Settling.{thin_is_working, thin_is_least, nothing_is_thin, settled_has_nothing_thin, step_keeps_consistency, step_keeps_values, step_counts_no_copy, settle_by_steps, settle_ends, settle_keeps_consistency, settle_settles, settle_keeps_live_values, settle_keeps_values, settled_is_bounded, settle_counts_no_copy}
use Rattle.vm_ids.proofs.forest_laws.settling.Goals as goal

pub returns-clause-thin_is_working : goal.returns-clause-thin_is_working
returns-clause-thin_is_working g c = thin_is_working

pub returns-clause-thin_is_least : goal.returns-clause-thin_is_least
returns-clause-thin_is_least g c = thin_is_least

pub returns-clause-nothing_is_thin : goal.returns-clause-nothing_is_thin
returns-clause-nothing_is_thin g c = nothing_is_thin

pub returns-clause-settled_has_nothing_thin : goal.returns-clause-settled_has_nothing_thin
returns-clause-settled_has_nothing_thin g c = settled_has_nothing_thin

pub returns-clause-step_keeps_consistency : goal.returns-clause-step_keeps_consistency
returns-clause-step_keeps_consistency g c = step_keeps_consistency

pub returns-clause-step_keeps_values : goal.returns-clause-step_keeps_values
returns-clause-step_keeps_values g c = step_keeps_values

pub returns-clause-step_counts_no_copy : goal.returns-clause-step_counts_no_copy
returns-clause-step_counts_no_copy g c = step_counts_no_copy

pub returns-clause-settle_by_steps : goal.returns-clause-settle_by_steps
returns-clause-settle_by_steps g c = settle_by_steps

pub returns-clause-settle_ends : goal.returns-clause-settle_ends
returns-clause-settle_ends g c = settle_ends

pub returns-clause-settle_keeps_consistency : goal.returns-clause-settle_keeps_consistency
returns-clause-settle_keeps_consistency g c = settle_keeps_consistency

pub returns-clause-settle_settles : goal.returns-clause-settle_settles
returns-clause-settle_settles g c = settle_settles

pub returns-clause-settle_keeps_live_values : goal.returns-clause-settle_keeps_live_values
returns-clause-settle_keeps_live_values g c = settle_keeps_live_values

pub returns-clause-settle_keeps_values : goal.returns-clause-settle_keeps_values
returns-clause-settle_keeps_values g c = settle_keeps_values

pub returns-clause-settled_is_bounded : goal.returns-clause-settled_is_bounded
returns-clause-settled_is_bounded g c = settled_is_bounded

pub returns-clause-settle_counts_no_copy : goal.returns-clause-settle_counts_no_copy
returns-clause-settle_counts_no_copy g c = settle_counts_no_copy
