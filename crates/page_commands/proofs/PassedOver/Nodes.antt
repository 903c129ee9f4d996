-- What is kept of nodes of pages that are untouched.
use Rattle.std.proofs.Common.{◌≡◌, ℕ, ◌+◌, ◌<◌, [], length, Some, None, sym, ap, ◌∙◌, inr, arith}
use Rattle.vm_ids.specs.declared.numbers.CacheId.{CacheId}
use Rattle.vm_ids.specs.declared.numbers.NodeId.{NodeId}
use Rattle.vm_ids.specs.declared.numbers.PageNo.{PageNo}
use Rattle.vm_ids.specs.Forest.Commands.{page_name, page_names}
use Rattle.vm_ids.specs.Forest.Nodes.{child_count}
use Rattle.vm_ids.proofs.Forest.Laws.Ranges.{ranges_hold_their_pages}
use Rattle.local_cache.specs.declared.own_state.OwnState.TheVariants.{OnSegment}
use Rattle.local_cache.specs.Arena.{Arena, HasNode, cell, node_at}
use Rattle.local_cache.specs.Many.{AreAlike}
use Rattle.local_cache.specs.ManyNodes.{next_if, next_node}
use Rattle.local_cache.specs.Own.{own_of}
use Rattle.local_cache.specs.Reading.{forest_of, name_of}
use Rattle.local_cache.specs.Sound.{IsSound}
use Rattle.tree_merge.specs.Copying.{IsLone}
use Rattle.tree_merge.proofs.AlikeNodes.{alike_trees}
use Rattle.tree_merge.proofs.ChildLists.Names.{counted}
use Rattle.page_commands.specs.Homes.{AllMayGo}
use Rattle.page_commands.specs.Untouched.{AreUntouched}

pub alike_untouched : (a : Arena) (n : NodeId) (count : ℕ) → AreAlike a n count → own_of a n ≡ OnSegment → (cell a n).links.parent ≡ None → (cell a n).tree ≡ [] → AreUntouched a n count
alike_untouched a n count alike own root leaf = record {
  alike = alike;
  untouched = λ k low. record {
    own = (alike k low).own ∙ own;
    lone = record {
      root = ap (λ l. l.parent) (alike k low).links ∙ ap (λ o. next_if o k) root;
      tree = alike_trees a n count alike [] leaf k low;
      stubs = ap (λ l. l.stubs) (alike k low).links;
    };
  };
}

-- nothing hangs on a lone node
pub lone_leaf : (a : Arena) → IsSound a → (n : NodeId) → HasNode a n → IsLone (cell a n) → child_count (forest_of a) (name_of a n) ≡ 0
lone_leaf a sound n held lone = counted a sound n held ∙ omega (arith, ap length lone.tree, lone.stubs)

-- the first of them is the node of this page
module _ (a : Arena) (sound : IsSound a) (cache : CacheId) (page : PageNo) (n : NodeId) (here : node_at a cache.0 page.0 ≡ Some n) (count : ℕ) (are : AreUntouched a n count) where
  pub untouched_name : (k : ℕ) → k < count → name_of a (next_node n k) ≡ page_name cache (page.0 + k)
  untouched_name k low = (are.alike k low).page cache page (sound.kept.listed.nodes cache.0 page.0 n here).1

  pub untouched_may : AllMayGo a (page_names cache page.0 count)
  untouched_may x i =
      let at = (ranges_hold_their_pages cache page.0 count x).0 i in
      let k = at.0 in
      inr (ap (child_count (forest_of a)) (at.2 ∙ sym (untouched_name k at.1)) ∙ lone_leaf a sound (next_node n k) (are.alike k at.1).held (are.untouched k at.1).lone)
