use Rattle.std.proofs.Common.{sym, ap, ◌∙◌, not}
use Rattle.local_cache.proofs.Singles.{none_of}
use Rattle.tree_merge.proofs.AlikeNodes.{no_children}
use Rattle.page_commands.proofs.untouched.is_untouched.Goals as goal

pub returns-then-is_none-clause-tree : goal.returns-then-is_none-clause-tree
returns-then-is_none-clause-tree c = λ is. no_children _ (sym c.tree_child.ensures ∙ none_of _ (c.is_none-then-is_none.ensures ∙ ap not is))
