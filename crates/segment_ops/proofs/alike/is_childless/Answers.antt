use Rattle.std.proofs.Common.{sym, ap, ◌∙◌, not, inr}
use Rattle.local_cache.proofs.Singles.{none_of}
use Rattle.segment_ops.proofs.AlikePages.{no_children}
use Rattle.segment_ops.proofs.alike.is_childless.Goals as goal

pub returns-else-is_absent : goal.returns-else-is_absent
returns-else-is_absent c = λ is. inr (no_children _ (sym c.tree_child.ensures ∙ none_of _ (c.is_none.ensures ∙ ap not is)))
