use Rattle.tree_merge.proofs.RetiredPages.SharedPages.{pages_shared}
use Rattle.tree_merge.proofs.laws.sharing_at_once.Goals as goal

pub returns : goal.returns
returns c = pages_shared
