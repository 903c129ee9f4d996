-- A change of the caches that follows a rule of the page forest.
use Rattle.std.proofs.Common.{◌≡◌, List, map, Some, sym, ap, ◌∙◌, subst}
use Rattle.vm_ids.specs.declared.node_name.NodeName.{NodeName}
use Rattle.vm_ids.specs.Forest.NameMap.{contains_key}
use Rattle.vm_ids.specs.Forest.Nodes.{Forest, node}
use Rattle.vm_ids.specs.Forest.Shape.{IsLinked}
use Rattle.vm_ids.specs.declared.numbers.NodeId.{NodeId}
use Rattle.local_cache.specs.declared.own_state.OwnState.{OwnState}
use Rattle.local_cache.specs.Arena.{Arena, cell, HasNode}
use Rattle.local_cache.specs.Reading.{name_of, node_of, page_of, forest_of, hang_by, stubs_of, AreNamesApart}
use Rattle.local_cache.specs.Threads.{IsThreaded}
use Rattle.local_cache.specs.Sound.{IsListed, IsSound, ◌∈◌}
use Rattle.local_cache.proofs.Forest.StubRows.{threaded_is}
use Rattle.local_cache.proofs.Changes.SameNodes.{Like, reads_like, listed-like, named-like, hang-like, map-like, same_node}

-- g is what b reads as, column by column
pub record Follows (a b : Arena) (g : Forest OwnState) (ys : NodeId → List NodeId) : Type 0 where
  pub like : Like a b
  pub same_made : a.made ≡ b.made
  pub made : b.made ≡ g.made
  pub copies : b.copies ≡ g.copies
  pub names : (x : NodeName) → contains_key g.nodes x ≡ contains_key (forest_of a).nodes x
  pub threaded : (x : NodeId) → HasNode a x → IsThreaded b x (ys x)
  pub own : (n : NodeId) → HasNode a n → (node g (name_of a n)).own ≡ page_of (cell b n).own
  pub hang : (n : NodeId) → HasNode a n → (node g (name_of a n)).hang ≡ hang_by a (cell b n).links.parent (cell b n).links.by_stub
  pub tree : (n : NodeId) → HasNode a n → (node g (name_of a n)).tree ≡ map (name_of a) (cell b n).tree
  pub stubs : (n : NodeId) → HasNode a n → (node g (name_of a n)).stubs ≡ map (name_of a) (ys n)
  pub parents : (n p : NodeId) → HasNode a n → (cell b n).links.parent ≡ Some p → HasNode a p
  pub children : (n m : NodeId) → HasNode a n → m ∈ (cell b n).tree → HasNode a m
  pub linked : IsLinked g

module _ (a b : Arena) (named : AreNamesApart a) (g : Forest OwnState) (ys : NodeId → List NodeId) (rule : Follows a b g ys) where
  stubs_are : (n : NodeId) → HasNode a n → stubs_of b n ≡ ys n
  stubs_are n h = threaded_is b n (ys n) (rule.threaded n h)

  pub follows-forest : forest_of b ≡ g
  follows-forest = reads_like a b named rule.like rule.same_made g rule.made rule.copies rule.names (λ n h. same_node _ (node_of b n)
      (rule.own n h)
      (rule.hang n h ∙ sym (hang-like a b rule.like (cell b n).links.parent (cell b n).links.by_stub))
      (rule.tree n h ∙ sym (map-like a b rule.like (cell b n).tree))
      (rule.stubs n h ∙ sym (ap (map (name_of b)) (stubs_are n h) ∙ map-like a b rule.like (ys n))))

  pub follows-sound : IsListed a → IsSound b
  follows-sound listed = record {
    kept = record {
      named = named-like a b named rule.like rule.same_made;
      listed = listed-like a b listed rule.like;
      parents = λ n p h up. rule.like.held p ∙ rule.parents n p (sym (rule.like.held n) ∙ h) up;
      children = λ n m h i. rule.like.held m ∙ rule.children n m (sym (rule.like.held n) ∙ h) i;
      threaded = λ x h. let ha : HasNode a x = sym (rule.like.held x) ∙ h in subst (IsThreaded b x) (sym (stubs_are x ha)) (rule.threaded x ha);
    };
    linked = subst IsLinked (sym follows-forest) rule.linked;
  }
