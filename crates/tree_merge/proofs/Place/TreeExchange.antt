-- A node comes in the place of another one that hangs by a tree link.
use Rattle.std.proofs.Common.{◌≡◌, ◌≢◌, false, map, Option, Some, None, sym, ap, ◌∙◌, subst, inl, inr, arith}
use Rattle.vm_ids.specs.declared.node_name.NodeName.{NodeName}
use Rattle.vm_ids.specs.Forest.NameLists as names
use Rattle.vm_ids.specs.Forest.Nodes.{Forest, node}
use Rattle.vm_ids.specs.Forest.Nodes.Hang.{Root, TreeOf, StubOf}
use Rattle.vm_ids.specs.Forest.Shape.{IsLinked}
use Rattle.vm_ids.specs.Forest.Changes.{edit, with_hang, relist}
use Rattle.vm_ids.specs.Forest.Changes as forest
use Rattle.vm_ids.specs.Forest.Settling.{take_place}
use Rattle.vm_ids.proofs.Forest.TakingPlace.{taken-linked}
use Rattle.vm_ids.specs.declared.numbers.NodeId.{NodeId}
use Rattle.local_cache.specs.Arena.{Arena, cell, HasNode, hung, with_tree}
use Rattle.local_cache.specs.NodeCells.{exchanged}
use Rattle.local_cache.specs.Reading.{name_of, forest_of}
use Rattle.local_cache.specs.Sound.{IsSound, IsKept, ◌∈◌}
use Rattle.local_cache.proofs.Forest.Reading.{node-forest_of}
use Rattle.local_cache.proofs.Changes.SameNodes.{hang_root, rehung_then}
use Rattle.local_cache.proofs.Changes.OneNode.{Edited, IsNoStub, tree-edited, hang-edited, no_stub-tree, no_stub-hung, root_no_stub}
use Rattle.tree_merge.specs.Staying.{IsBelow}
use Rattle.tree_merge.proofs.Place.Step.{Step}
use Rattle.tree_merge.proofs.ChildLists.TreeLists.{exchanged-in, renamed-names}
use Rattle.tree_merge.proofs.Place.TreeCut.{relist_tree, tree_hang, tree_parent, tree_names}

-- w and a node below it are two
pub below_apart : {P : Type 0} (f : Forest P) (w y : NodeName) → IsBelow f w y → y ≢ w
below_apart f w y below e = let low = below.2 in let is = ap below.0 e in absurd (omega arith)

module _ (a : Arena) (sound : IsSound a) (w y p : NodeId) (hw : HasNode a w) (hy : HasNode a y) (up : (cell a w).links.parent ≡ Some p) (by_tree : (cell a w).links.by_stub ≡ false)
    (root : (node (forest_of a) (name_of a y)).hang ≡ Root) (below : IsBelow (forest_of a) (name_of a w) (name_of a y)) where
  kept : IsKept a
  kept = sound.kept

  hp : HasNode a p
  hp = tree_parent a sound w p hw up by_tree

  apart : y ≢ w
  apart e = below_apart (forest_of a) (name_of a w) (name_of a y) below (ap (name_of a) e)

  no_parent : (cell a y).links.parent ≡ None
  no_parent = hang_root a (cell a y).links.parent (cell a y).links.by_stub (sym (ap (λ m. m.hang) (node-forest_of a sound.kept.named y hy)) ∙ root)

  all : (m : NodeId) → m ∈ (cell a p).tree → HasNode a m
  all m i = sound.kept.children p m hp i

  still : (m : NodeId) → m ∈ exchanged w (Some y) (cell a p).tree → HasNode a m
  still m i = elim (exchanged-in w (Some y) (cell a p).tree m i) [ inl e ↦ (let is : y ≡ m = cc e in subst (HasNode a) is hy) | inr j ↦ all m j ]

  abbrev b : Arena
  b = with_tree a p (exchanged w (Some y) (cell a p).tree)

  listed : Edited a b (edit (forest_of a) (name_of a p) (forest.with_tree (map (name_of a) (exchanged w (Some y) (cell a p).tree))))
  listed = tree-edited a kept p hp (exchanged w (Some y) (cell a p).tree) still

  b-held : (m : NodeId) → HasNode a m → HasNode b m
  b-held m h = listed.rehung.like.held m ∙ h

  free_y : IsNoStub b y
  free_y = no_stub-tree a p (exchanged w (Some y) (cell a p).tree) y (root_no_stub a y no_parent)

  to_p : (q : NodeId) → ◌≡◌ {A = Option NodeId} (Some p) (Some q) → HasNode b q
  to_p q e = let is : p ≡ q = cc e in subst (HasNode b) is (b-held p hp)

  abbrev c : Arena
  c = hung b y (Some p)

  put : Edited b c (edit (forest_of b) (name_of b y) (with_hang (TreeOf (name_of b p))))
  put = hang-edited b listed.kept y (b-held y hy) free_y (Some p) to_p

  free_w : IsNoStub c w
  free_w = no_stub-hung b y (Some p) w (λ e. apart (sym e)) (no_stub-tree a p (exchanged w (Some y) (cell a p).tree) w (λ q e. by_tree))

  abbrev d : Arena
  d = hung c w None

  loose : Edited c d (edit (forest_of c) (name_of c w) (with_hang Root))
  loose = hang-edited c put.kept w (put.rehung.like.held w ∙ b-held w hw) free_w None (λ q e. absurd (cc e))

  list : forest_of b ≡ relist (forest_of a) (node (forest_of a) (name_of a w)).hang (map (names.renamed (name_of a w) (name_of a y)))
  list = listed.forest
      ∙ ap (λ xs. edit (forest_of a) (name_of a p) (forest.with_tree xs)) (renamed-names a sound.kept.named w hw y (cell a p).tree all ∙ ap (map (names.renamed (name_of a w) (name_of a y))) (sym (tree_names a sound w p hw up by_tree)))
      ∙ sym (relist_tree (forest_of a) _ (map (names.renamed (name_of a w) (name_of a y))) (name_of a p) (tree_hang a sound w p hw up by_tree))

  link : forest_of c ≡ edit (forest_of b) (name_of a y) (with_hang (node (forest_of a) (name_of a w)).hang)
  link = put.forest
      ∙ ap (λ x. edit (forest_of b) x (with_hang (TreeOf (name_of b p)))) (listed.rehung.like.name y)
      ∙ ap (λ h. edit (forest_of b) (name_of a y) (with_hang h)) (ap TreeOf (listed.rehung.like.name p) ∙ sym (tree_hang a sound w p hw up by_tree))

  d-forest : forest_of d ≡ take_place (forest_of a) (name_of a w) (name_of a y)
  unfolding take_place
  d-forest = loose.forest
      ∙ ap (λ x. edit (forest_of c) x (with_hang Root)) (put.rehung.like.name w ∙ listed.rehung.like.name w)
      ∙ ap (λ g. edit g (name_of a w) (with_hang Root)) (link ∙ ap (λ g. edit g (name_of a y) (with_hang (node (forest_of a) (name_of a w)).hang)) list)

  not_stub : (q : NodeName) → (node (forest_of a) (name_of a w)).hang ≡ StubOf q → (node (forest_of a) (name_of a y)).own ≡ None
  not_stub q e = absurd (let clash : TreeOf (name_of a p) ≡ StubOf q = sym (tree_hang a sound w p hw up by_tree) ∙ e in cc clash)

  d-linked : IsLinked (take_place (forest_of a) (name_of a w) (name_of a y))
  d-linked = taken-linked (forest_of a) sound.linked (name_of a w) (name_of a y) (below_apart (forest_of a) _ _ below) root below.0 below.1 below.2 not_stub

  taken_d : Step a d (take_place (forest_of a) (name_of a w) (name_of a y))
  taken_d = record {
    forest = d-forest;
    sound = record { kept = loose.kept; linked = subst IsLinked (sym d-forest) d-linked };
    rehung = rehung_then a b d listed.rehung (rehung_then b c d put.rehung loose.rehung);
  }

  pub take_tree_place-Step : (b1 c1 d1 : Arena) → b1 ≡ with_tree a p (exchanged w (Some y) (cell a p).tree) → c1 ≡ hung b1 y (Some p) → d1 ≡ hung c1 w None → Step a d1 (take_place (forest_of a) (name_of a w) (name_of a y))
  take_tree_place-Step b1 c1 d1 b_is c_is d_is = subst (λ k. Step a k (take_place (forest_of a) (name_of a w) (name_of a y))) (sym (d_is ∙ ap (λ k. hung k w None) (c_is ∙ ap (λ k. hung k y (Some p)) b_is))) taken_d
