-- A change of links takes no room, and lists of stubs are shorter than there are nodes.
use Rattle.std.proofs.Common.{◌≡◌, ◌≢◌, suc, ◌+◌, ◌≤◌, length, Option, Some, None, refl, sym, ap, ◌∙◌, subst, inl, inr, ◌++◌, ◌∷◌, length-append}
use Rattle.std.proofs.lemmas.List.{length-map}
use Rattle.vm_ids.specs.declared.node_name.NodeName.{NodeName}
use Rattle.vm_ids.specs.declared.numbers.NodeId.{NodeId}
use Rattle.vm_ids.specs.Forest.NameMap.{len}
use Rattle.vm_ids.specs.Forest.Nodes.{Forest, node, IsNode, parent_of}
use Rattle.vm_ids.specs.Forest.Nodes.Hang.{Root}
use Rattle.vm_ids.specs.Forest.Shape.{IsLinked}
use Rattle.vm_ids.proofs.Forest.Fitting.{names_fit, IsNode-parent}
use Rattle.vm_ids.proofs.Forest.NameLists.{in_append, Once-append}
use Rattle.local_cache.specs.declared.links.Links.{Links}
use Rattle.local_cache.specs.Arena.{Arena, cell, put, HasNode, with_links}
use Rattle.local_cache.specs.Reading.{name_of, forest_of}
use Rattle.local_cache.specs.Sound.{IsKept}
use Rattle.local_cache.proofs.Forest.Reading.{node-forest_of}
use Rattle.page_stubs.specs.Threading.{with_behind, with_before, added, cut_out, joined, replaced}

pub room-links : (a : Arena) (n : NodeId) (l : Links) → (with_links a n l).room ≡ a.room
unfolding put
room-links a n l = refl

pub room-behind : (a : Arena) (o to : Option NodeId) → (with_behind a o to).room ≡ a.room
room-behind a None to = refl
room-behind a (Some n) to = room-links a n _

pub room-before : (a : Arena) (o to : Option NodeId) → (with_before a o to).room ≡ a.room
room-before a None to = refl
room-before a (Some n) to = room-links a n _

pub room-added : (a : Arena) (d s : NodeId) (last : Option NodeId) → (added a d s last).room ≡ a.room
room-added a d s last = room-links _ s _ ∙ room-behind _ last (Some d) ∙ room-links a d _

pub room-cut : (a : Arena) (n p : NodeId) (before behind : Option NodeId) → (cut_out a n p before behind).room ≡ a.room
room-cut a n p before behind = room-links _ n _ ∙ room-links _ p _ ∙ room-before _ behind before ∙ room-behind a before behind

pub room-joined : (a : Arena) (from to : NodeId) → (joined a from to).room ≡ a.room
room-joined a from to = room-links _ from _ ∙ room-links _ to _ ∙ room-before _ _ _ ∙ room-behind a _ _

pub room-replaced : (a : Arena) (w y p : NodeId) → (replaced a w y p).room ≡ a.room
room-replaced a w y p = room-links _ w _ ∙ room-links _ y _ ∙ room-links _ p _ ∙ room-before _ _ _ ∙ room-behind a _ _

module _ {P : Type 0} (f : Forest P) (linked : IsLinked f) where
  -- the stubs of s, and a node that hangs nowhere
  pub one_more_fits : (d s : NodeName) → IsNode f d → (node f d).hang ≡ Root → suc (length (node f s).stubs) ≤ len f.nodes
  one_more_fits d s there root = names_fit f (d ∷ (node f s).stubs) ((λ i. let h = (linked.stub_links d s).0 i in cc (h, root)), (linked.once s).1)
      (λ x i. elim i [ inl e ↦ subst (IsNode f) (sym e) there | inr j ↦ IsNode-parent f x s (ap parent_of ((linked.stub_links x s).0 j)) ])

  -- the stubs of two nodes
  pub both_fit : (x h : NodeName) → h ≢ x → length (node f h).stubs + length (node f x).stubs ≤ len f.nodes
  both_fit x h apart = subst (λ k. k ≤ len f.nodes) (length-append (node f h).stubs (node f x).stubs) (names_fit f ((node f h).stubs ++ (node f x).stubs)
      (Once-append _ _ (linked.once h).1 (linked.once x).1 (λ z i j. apart (cc ((linked.stub_links z h).0 i, (linked.stub_links z x).0 j))))
      (λ z i. elim (in_append _ _ z i) [
        | inl j ↦ IsNode-parent f z h (ap parent_of ((linked.stub_links z h).0 j))
        | inr j ↦ IsNode-parent f z x (ap parent_of ((linked.stub_links z x).0 j))
      ]))

pub count_is : (a : Arena) → IsKept a → (s : NodeId) → HasNode a s → (cell a s).links.stubs ≡ length (node (forest_of a) (name_of a s)).stubs
count_is a kept s h = (kept.threaded s h).count ∙ sym (length-map _ (name_of a)) ∙ sym (ap (λ n. length n.stubs) (node-forest_of a kept.named s h))
