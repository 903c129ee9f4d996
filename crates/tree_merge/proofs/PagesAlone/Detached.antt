-- A page was detached for a copy: its node and that of its source.
use Rattle.std.proofs.Common.{◌≡◌, ◌≢◌, ◌+◌, ◌≤◌, ◌⊎◌, Some, None, sym, ap, ◌∙◌, subst, inl, inr, arith}
use Rattle.vm_ids.specs.declared.node_name.NodeName.{NodeName}
use Rattle.vm_ids.specs.declared.node_name.NodeName.TheVariants.{Live, Working}
use Rattle.vm_ids.specs.declared.numbers.CacheId.{CacheId}
use Rattle.vm_ids.specs.declared.numbers.NodeId.{NodeId}
use Rattle.vm_ids.specs.declared.numbers.PageNo.{PageNo}
use Rattle.vm_ids.specs.Forest.Nodes.{Forest, IsNode, childless, node}
use Rattle.vm_ids.specs.Forest.Nodes.Hang.{Root}
use Rattle.vm_ids.specs.Forest.Rules.{detach, link}
use Rattle.vm_ids.specs.Forest.Shape.{IsConsistent}
use Rattle.vm_ids.specs.Forest.Laws.Linking.{ArePages}
use Rattle.vm_ids.proofs.Forest.Detaching.{live_most}
use Rattle.vm_ids.proofs.Forest.Lengths.{detached_pages}
use Rattle.vm_ids.proofs.Forest.Linking.{link-Links}
use Rattle.vm_ids.proofs.Forest.Made.{detach-made}
use Rattle.vm_ids.proofs.Forest.NodesAfter.{node-put}
use Rattle.vm_ids.proofs.Forest.OneDetached.{next_free, detach-shaped_but}
use Rattle.local_cache.specs.declared.own_state.OwnState.{OwnState}
use Rattle.local_cache.specs.Arena.{Arena, node_at}
use Rattle.local_cache.specs.Reading.{forest_of, name_of}
use Rattle.local_cache.specs.Sound.{IsSound}
use Rattle.local_cache.proofs.Changes.SameNodes.{forest_of-made}

-- two nodes whose names differ
apart_by_name : (a : Arena) (n m : NodeId) (x y : NodeName) → name_of a n ≡ x → name_of a m ≡ y → x ≢ y → n ≢ m
apart_by_name a n m x y is_x is_y ne e = ne (sym is_x ∙ ap (name_of a) e ∙ is_y)

-- A page was detached

module _ (a b : Arena) (consistent : IsConsistent (forest_of a)) (to from : CacheId) (to_page from_page : PageNo) (pages : ArePages (forest_of a) (Live to to_page) (Live from from_page))
    (forest_is : forest_of b ≡ detach (forest_of a) (Live to to_page) None) (sound : IsSound b) where
  pub made_after : b.made ≤ a.made + 1
  made_after = omega (arith, detach-made (forest_of a) (Live to to_page) None, forest_of-made a, forest_of-made b, ap (λ (g : Forest OwnState). g.made) forest_is)

  bare_named : node (forest_of b) (Live to to_page) ≡ childless None Root
  unfolding detach
  bare_named = ap (λ g. node g (Live to to_page)) forest_is ∙ node-put _ (Live to to_page) (childless None Root)

  -- the nodes of the two pages
  module _ (d s : NodeId) (at_d : node_at b to.0 to_page.0 ≡ Some d) (at_s : node_at b from.0 from_page.0 ≡ Some s) where
    pub fresh_name : name_of b d ≡ Live to to_page
    fresh_name = (sound.kept.listed.nodes to.0 to_page.0 d at_d).1

    pub origin_name : name_of b s ≡ Live from from_page
    origin_name = (sound.kept.listed.nodes from.0 from_page.0 s at_s).1

    pub fresh_bare : node (forest_of b) (name_of b d) ≡ childless None Root
    fresh_bare = ap (node (forest_of b)) fresh_name ∙ bare_named

    pub fresh_apart : d ≢ s
    fresh_apart = apart_by_name b d s (Live to to_page) (Live from from_page) fresh_name origin_name pages.apart

-- The nodes that a tree link makes

-- the nodes of a forest after `link`: those that it had, and maybe the next working node
module _ {P : Type 0} (f : Forest P) (c : IsConsistent f) (d s : NodeName) (pages : ArePages f d s) where
  detached_links : (y : NodeName) → IsNode (link (detach f d None) d s) y → IsNode (detach f d None) y ⊎ (y ≡ Working ((detach f d None).made + 1))
  detached_links y is =
      let but = detach-shaped_but f c d pages.destination pages.live_destination in
      let now = detached_pages f c d s pages in
      (link-Links (detach f d None) but.linked d s but.fresh but.there now.apart now.source (next_free (detach f d None) but.counted) (live_most s now.live_source)).new y is

pub links_of : (a b : Arena) → IsConsistent (forest_of a) → (d s : NodeName) → ArePages (forest_of a) d s → forest_of b ≡ detach (forest_of a) d None
    → (y : NodeName) → IsNode (link (forest_of b) d s) y → IsNode (forest_of b) y ⊎ (y ≡ Working (b.made + 1))
links_of a b c d s pages is y there =
    elim (detached_links (forest_of a) c d s pages y (subst (λ g. IsNode (link g d s) y) is there)) [
      | inl old ↦ inl (subst (λ g. IsNode g y) (sym is) old)
      | inr e ↦ inr (e ∙ ap (λ (g : Forest OwnState). Working (g.made + 1)) (sym is) ∙ ap (λ k. Working (k + 1)) (forest_of-made b))
    ]
