-- A node that hangs by a tree link is cut off.
use Rattle.std.proofs.Common.{◌≡◌, false, List, map, Option, Some, None, sym, ap, ◌∙◌, subst, inl, inr}
use Rattle.vm_ids.specs.declared.node_name.NodeName.{NodeName}
use Rattle.vm_ids.specs.Forest.NameLists as names
use Rattle.vm_ids.specs.Forest.Nodes.{Forest, node, Hang}
use Rattle.vm_ids.specs.Forest.Nodes.Hang.{Root, TreeOf}
use Rattle.vm_ids.specs.Forest.Shape.{IsLinked}
use Rattle.vm_ids.specs.Forest.Changes.{edit, with_hang, cut, relist}
use Rattle.vm_ids.specs.Forest.Changes as forest
use Rattle.vm_ids.proofs.Forest.Cutting.{cut-linked}
use Rattle.vm_ids.specs.declared.numbers.NodeId.{NodeId}
use Rattle.local_cache.specs.declared.own_state.OwnState.{OwnState}
use Rattle.local_cache.specs.Arena.{Arena, cell, HasNode, hung, with_tree}
use Rattle.local_cache.specs.ManyNodes.{next_if, next_node}
use Rattle.local_cache.specs.NodeCells.{exchanged, with_child}
use Rattle.local_cache.specs.OnCells.{on_cell, on_cells}
use Rattle.local_cache.specs.Reading.{name_of, forest_of, hang_by}
use Rattle.local_cache.specs.Sound.{IsSound, IsKept, ◌∈◌}
use Rattle.local_cache.proofs.Forest.Reading.{node-forest_of}
use Rattle.local_cache.proofs.Changes.SameNodes.{rehung_then}
use Rattle.local_cache.proofs.Changes.OneNode.{Edited, IsNoStub, tree-edited, hang-edited, no_stub-tree}
use Rattle.history_tree.proofs.OnCells.{here}
use Rattle.tree_merge.proofs.Place.Step.{Step}
use Rattle.tree_merge.proofs.ChildLists.TreeLists.{exchanged-in, without-names}

-- the tree children of one node changed
pub one_exchanged : (a : Arena) (p n : NodeId) (o : Option NodeId) → on_cells a p (λ k. with_child (next_node n k) (next_if o k)) 1 ≡ with_tree a p (exchanged n o (cell a p).tree)
one_exchanged a p n None = λ i. on_cell a (here p i) (with_child (here n i) None)
one_exchanged a p n (Some y) = λ i. on_cell a (here p i) (with_child (here n i) (Some (here y i)))

-- what the forest has where a node hangs by a tree link
module _ (a : Arena) (sound : IsSound a) (n p : NodeId) (hn : HasNode a n) (up : (cell a n).links.parent ≡ Some p) (by_tree : (cell a n).links.by_stub ≡ false) where
  pub tree_hang : (node (forest_of a) (name_of a n)).hang ≡ TreeOf (name_of a p)
  tree_hang = ap (λ m. m.hang) (node-forest_of a sound.kept.named n hn) ∙ ap (λ o. hang_by a o (cell a n).links.by_stub) up ∙ ap (hang_by a (Some p)) by_tree

  pub tree_parent : HasNode a p
  tree_parent = sound.kept.parents n p hn up

  pub tree_names : (node (forest_of a) (name_of a p)).tree ≡ map (name_of a) (cell a p).tree
  tree_names = ap (λ m. m.tree) (node-forest_of a sound.kept.named p tree_parent)

pub relist_tree : {P : Type 0} (f : Forest P) (h : Hang) (change : List NodeName → List NodeName) (p : NodeName) → h ≡ TreeOf p → relist f h change ≡ edit f p (λ n. forest.with_tree (change n.tree) n)
unfolding relist
relist_tree f h change p e = ap (λ k. relist f k change) e

module _ (a : Arena) (sound : IsSound a) (n p : NodeId) (hn : HasNode a n) (up : (cell a n).links.parent ≡ Some p) (by_tree : (cell a n).links.by_stub ≡ false) where
  kept : IsKept a
  kept = sound.kept

  hp : HasNode a p
  hp = tree_parent a sound n p hn up by_tree

  abbrev b : Arena
  b = with_tree a p (exchanged n None (cell a p).tree)

  all : (m : NodeId) → m ∈ (cell a p).tree → HasNode a m
  all m i = sound.kept.children p m hp i

  still : (m : NodeId) → m ∈ exchanged n None (cell a p).tree → HasNode a m
  still m i = elim (exchanged-in n None (cell a p).tree m i) [ inl e ↦ absurd (cc e) | inr j ↦ all m j ]

  emptied : Edited a b (edit (forest_of a) (name_of a p) (forest.with_tree (map (name_of a) (exchanged n None (cell a p).tree))))
  emptied = tree-edited a kept p hp (exchanged n None (cell a p).tree) still

  no_stub : IsNoStub b n
  no_stub = no_stub-tree a p (exchanged n None (cell a p).tree) n (λ q e. by_tree)

  abbrev c : Arena
  c = hung b n None

  loose : Edited b c (edit (forest_of b) (name_of b n) (with_hang Root))
  loose = hang-edited b emptied.kept n (emptied.rehung.like.held n ∙ hn) no_stub None (λ q e. absurd (cc e))

  f : Forest OwnState
  f = forest_of a

  list : forest_of b ≡ relist (forest_of a) (node (forest_of a) (name_of a n)).hang (names.without (name_of a n))
  list = emptied.forest
      ∙ ap (λ xs. edit (forest_of a) (name_of a p) (forest.with_tree xs)) (without-names a sound.kept.named n hn (cell a p).tree all ∙ ap (names.without (name_of a n)) (sym (tree_names a sound n p hn up by_tree)))
      ∙ sym (relist_tree (forest_of a) _ (names.without (name_of a n)) (name_of a p) (tree_hang a sound n p hn up by_tree))

  c-forest : forest_of c ≡ cut (forest_of a) (name_of a n)
  unfolding cut
  c-forest = loose.forest
      ∙ ap (λ x. edit (forest_of b) x (with_hang Root)) (emptied.rehung.like.name n)
      ∙ ap (λ g. edit g (name_of a n) (with_hang Root)) list

  cut_c : Step a c (cut (forest_of a) (name_of a n))
  cut_c = record {
    forest = c-forest;
    sound = record { kept = loose.kept; linked = subst IsLinked (sym c-forest) (cut-linked (forest_of a) (name_of a n) sound.linked) };
    rehung = rehung_then a b c emptied.rehung loose.rehung;
  }

  pub cut_tree-Step : (e d : Arena) → e ≡ with_tree a p (exchanged n None (cell a p).tree) → d ≡ hung e n None → Step a d (cut (forest_of a) (name_of a n))
  cut_tree-Step e d e_is d_is = subst (λ k. Step a k (cut (forest_of a) (name_of a n))) (sym (d_is ∙ ap (λ k. hung k n None) e_is)) cut_c
