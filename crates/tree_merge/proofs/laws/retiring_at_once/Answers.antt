use Rattle.tree_merge.proofs.RetiredPages.Leaves.{leaves_retired}
use Rattle.tree_merge.proofs.laws.retiring_at_once.Goals as goal

pub returns : goal.returns
returns c = leaves_retired
