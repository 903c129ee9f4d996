use Rattle.tree_merge.proofs.CopiedPages.InTurn.{copied_at_once}
use Rattle.tree_merge.proofs.laws.copying_at_once.Goals as goal

pub returns : goal.returns
returns c = copied_at_once
