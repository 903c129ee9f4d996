-- Each law as it is proved.
use Rattle.vm_ids.proofs.Forest.Saving.{saves_keep_consistency, saves_keep_bound, saves_keep_values, next_save, no_more_saves, saves_count_copies, save_range_counts_copies, save_range_ends}
use Rattle.vm_ids.proofs.forest_laws.saving.Goals as goal

pub returns-clause-saves_keep_consistency : goal.returns-clause-saves_keep_consistency
returns-clause-saves_keep_consistency g c = saves_keep_consistency

pub returns-clause-saves_keep_bound : goal.returns-clause-saves_keep_bound
returns-clause-saves_keep_bound g c = saves_keep_bound

pub returns-clause-saves_keep_values : goal.returns-clause-saves_keep_values
returns-clause-saves_keep_values g c = saves_keep_values

pub returns-clause-next_save : goal.returns-clause-next_save
returns-clause-next_save g c = next_save

pub returns-clause-no_more_saves : goal.returns-clause-no_more_saves
returns-clause-no_more_saves g c = no_more_saves

pub returns-clause-saves_count_copies : goal.returns-clause-saves_count_copies
returns-clause-saves_count_copies g c = saves_count_copies

pub returns-clause-save_range_counts_copies : goal.returns-clause-save_range_counts_copies
returns-clause-save_range_counts_copies g c = save_range_counts_copies

pub returns-clause-save_range_ends : goal.returns-clause-save_range_ends
returns-clause-save_range_ends g c = save_range_ends
