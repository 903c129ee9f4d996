use Rattle.seg_manager.proofs.Definition.Played.{kept_cache_comes_again, nothing_is_kept}
use Rattle.seg_manager.proofs.laws.worked_scripts.Goals as goal

pub returns-clause-kept_cache_comes_again : goal.returns-clause-kept_cache_comes_again
returns-clause-kept_cache_comes_again c = kept_cache_comes_again

pub returns-clause-nothing_is_kept : goal.returns-clause-nothing_is_kept
returns-clause-nothing_is_kept c = nothing_is_kept
