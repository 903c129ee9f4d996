-- The chain of a node and the number of its children, read off the caches.
use Rattle.std.proofs.Common.{◌≡◌, ◌+◌, ◌<◌, ◌≤◌, suc, [], ◌∷◌, ◌++◌, map, length, true, false, Some, is_none, sym, ap, subst, inl, inr, arith, length-append}
use Rattle.std.proofs.lemmas.List.{length-map}
use Rattle.vm_ids.specs.declared.node_name.NodeName.{NodeName}
use Rattle.vm_ids.specs.declared.node_name.NodeName.TheVariants.{Live, Working}
use Rattle.vm_ids.specs.declared.numbers.NodeId.{NodeId}
use Rattle.vm_ids.specs.Forest.NameMap.{len}
use Rattle.vm_ids.specs.Forest.NameLists as names
use Rattle.vm_ids.specs.Forest.Nodes.{Forest, node, IsNode, parent, parent_of, child_count, most_tree_children}
use Rattle.vm_ids.specs.Forest.Shape.{IsLinked, IsWellShaped}
use Rattle.vm_ids.specs.Forest.Reading.{chain_of}
use Rattle.vm_ids.proofs.Forest.Fitting.{names_fit, IsNode-parent}
use Rattle.vm_ids.proofs.Forest.NameLists.{in_append, Once-append}
use Rattle.local_cache.specs.Arena.{Arena, cell, HasNode}
use Rattle.local_cache.specs.Reading.{name_of, page_of, forest_of, stubs_of}
use Rattle.local_cache.specs.Sound.{IsSound}
use Rattle.local_cache.proofs.Forest.Reading.{node-forest_of, IsNode-forest_of}
use Rattle.history_tree.specs.Items.{item_for}
use Rattle.history_tree.proofs.Upward.{path_up, path_end}

module _ {P : Type 0} (f : Forest P) (linked : IsLinked f) (x : NodeName) where
  no_circle : parent f x ≡ Some x → ⊥
  no_circle up = let less = linked.order.1 x x up in omega arith

  child_up : (y : NodeName) → names.◌∈◌ y ((node f x).tree ++ (node f x).stubs) → parent f y ≡ Some x
  child_up y i = elim (in_append _ _ y i) [
    | inl j ↦ ap parent_of ((linked.tree_links y x).0 j)
    | inr j ↦ ap parent_of ((linked.stub_links y x).0 j)
  ]

  -- a node and its children are no more than there are nodes
  pub children_fit : IsNode f x → suc (child_count f x) ≤ len f.nodes
  children_fit there = subst (λ k. suc k ≤ len f.nodes) (length-append (node f x).tree (node f x).stubs) (names_fit f (x ∷ (node f x).tree ++ (node f x).stubs) (
    (λ i. no_circle (child_up x i)),
    Once-append _ _ (linked.once x).0 (linked.once x).1 (λ z i j. cc ((linked.tree_links z x).0 i, (linked.stub_links z x).0 j)),
  )
      (λ z i. elim i [ inl e ↦ subst (IsNode f) (sym e) there | inr j ↦ IsNode-parent f z x (child_up z j) ]))

most_two : (x : NodeName) → most_tree_children x ≤ 2
most_two (Live c p) = omega arith
most_two (Working k) = omega arith

module _ (a : Arena) (sound : IsSound a) (n : NodeId) (h : HasNode a n) where
  pub at_most_two : length (cell a n).tree ≤ 2
  at_most_two = let most = sound.linked.few (name_of a n) in omega (arith, ap (λ m. length m.tree) (node-forest_of a sound.kept.named n h), length-map (cell a n).tree (name_of a), most_two (name_of a n))

  pub count_is : child_count (forest_of a) (name_of a n) ≡ length (cell a n).tree + (cell a n).links.stubs
  count_is =
      let is = node-forest_of a sound.kept.named n h in
      omega (arith, ap (λ m. length m.tree) is, length-map (cell a n).tree (name_of a), ap (λ m. length m.stubs) is, length-map (stubs_of a n) (name_of a), (sound.kept.threaded n h).count)

  pub fits : len (forest_of a).nodes < 4294967296 → length (cell a n).tree + (cell a n).links.stubs < 4294967296
  fits few = omega (arith, children_fit (forest_of a) sound.linked (name_of a n) (IsNode-forest_of a sound.kept.named n h), count_is)

-- The chain

module _ (a : Arena) (sound : IsSound a) (shaped : IsWellShaped (forest_of a)) (n : NodeId) (h : HasNode a n) where
  pub chain_up : (p : NodeId) → is_none (page_of (cell a n).own) ≡ true → (cell a n).links.parent ≡ Some p → chain_of (forest_of a) (name_of a n) ≡ item_for (forest_of a) (name_of a n) ∷ chain_of (forest_of a) (name_of a p)
  unfolding chain_of
  chain_up p bare up = ap (map (item_for (forest_of a))) (path_up a sound shaped n h p bare up)

  pub chain_end : is_none (page_of (cell a n).own) ≡ false → chain_of (forest_of a) (name_of a n) ≡ item_for (forest_of a) (name_of a n) ∷ []
  unfolding chain_of
  chain_end full = ap (map (item_for (forest_of a))) (path_end a sound shaped n h full)
