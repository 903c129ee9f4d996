-- The thin node with the least number gives way to its only child by one call.
use Rattle.std.proofs.Common.{◌≡◌, Bool, true, false, cond, List, [], ◌∷◌, Option, Some, None, option_map, refl, sym, ap, ◌∙◌, subst, inl}
use Rattle.std.specs.Prelude.{slice_get}
use Rattle.std.specs.Option.{option_or}
use Rattle.vm_ids.specs.declared.numbers.NodeId.{NodeId}
use Rattle.vm_ids.specs.Forest.NameLists as names
use Rattle.vm_ids.specs.Forest.Nodes.{node, parent}
use Rattle.vm_ids.specs.Forest.Nodes.Hang.{TreeOf}
use Rattle.local_cache.specs.declared.own_state.OwnState.{OwnState}
use Rattle.local_cache.specs.Arena.{Arena, HasNode, cell, hung, put, with_own, without}
use Rattle.local_cache.specs.NodeCells.{hanging, inheriting, owning, with_child}
use Rattle.local_cache.specs.OnCells.{cut_from, given_way, on_cell}
use Rattle.local_cache.specs.Own.{is_absent, own_of}
use Rattle.local_cache.specs.Reading.{forest_of, hang_by, name_of}
use Rattle.local_cache.specs.Sound.{IsSound, ◌∈◌}
use Rattle.local_cache.specs.Thin.{IsLeastThin}
use Rattle.local_cache.proofs.Forest.Reading.{node-forest_of}
use Rattle.page_stubs.proofs.Rules.Cut.{in_map}
use Rattle.history_tree.proofs.OnCells.{on_keeps, on_twice}
use Rattle.tree_merge.specs.Releasing.{HasGivenWay, IsMerged, first_child, given, released_to}
use Rattle.tree_merge.proofs.ChildLists.Names.{first_child_up, first_is}
use Rattle.tree_merge.proofs.Merge.AtOnce.{given_at_once}
use Rattle.tree_merge.proofs.Merge.Step.{few_children, merged, settle_some}

module _ (a : Arena) (sound : IsSound a) (w y : NodeId) (least : IsLeastThin a (Some w)) (first : slice_get (cell a w).tree 0 ≡ Some y) where
  hw : HasNode a w
  hw = least.1.held

  in_tree : y ∈ (cell a w).tree
  in_tree = go (cell a w).tree first
    where
      go : (ts : List NodeId) → slice_get ts 0 ≡ Some y → y ∈ ts
      go [] e = absurd (cc e)
      go (t ∷ ts) e = let same : t ≡ y = cc e in inl (sym same)

  pub child_held : HasNode a y
  child_held = sound.kept.children w y hw in_tree

  is_first : Some y ≡ first_child a w
  is_first = ap (λ o. option_or o (cell a w).links.first) (sym first)

  up : parent (forest_of a) (name_of a y) ≡ Some (name_of a w)
  up = (first_child_up a sound w hw y is_first).1

  -- the child hangs by a tree link
  by_tree : (cell a y).links.by_stub ≡ false
  by_tree = go (cell a y).links.parent (cell a y).links.by_stub (sym (ap (λ m. m.hang) (node-forest_of a sound.kept.named y child_held)) ∙ hang)
    where
      hang : (node (forest_of a) (name_of a y)).hang ≡ TreeOf (name_of a w)
      hang = (sound.linked.tree_links (name_of a y) (name_of a w)).0
          (subst (λ xs. names.◌∈◌ (name_of a y) xs) (sym (ap (λ m. m.tree) (node-forest_of a sound.kept.named w hw))) (in_map a (cell a w).tree y in_tree))

      go : (o : Option NodeId) (t : Bool) → hang_by a o t ≡ TreeOf (name_of a w) → t ≡ false
      go None t e = absurd (cc e)
      go (Some p) true e = absurd (cc e)
      go (Some p) false e = refl

  kept_own : (o : Option NodeId) → own_of (cut_from a o w (Some y)) y ≡ own_of a y
  kept_own None = refl
  kept_own (Some p) = on_keeps (λ c. c.own) a p (with_child w (Some y)) y (λ c. refl)

  written : (o : Option NodeId) → on_cell (cut_from a o w (Some y)) y (inheriting (own_of a w) o) ≡ hung (with_own (cut_from a o w (Some y)) y (given (own_of a w) (own_of a y))) y o
  written o =
      let k = cut_from a o w (Some y) in
      ap (λ (s : OwnState). put k y (hanging o (owning (cond (is_absent s) (own_of a w) s) (cell k y)))) (kept_own o)
      ∙ sym (on_twice k y (owning (given (own_of a w) (own_of a y))) (hanging o))

  module _ (by_link : (cell a w).links.by_stub ≡ false) where
    pub way : HasGivenWay a (given_way a w y) w y (released_to a w (Some y))
    way =
        let o = (cell a w).links.parent in
        subst (λ (k : Arena). HasGivenWay a (without k w) w y (released_to a w (Some y))) (sym (written o))
        (given_at_once a sound w y hw child_held up (few_children a sound w least) by_link by_tree o refl)

    once : IsMerged a (given_way a w y) (released_to a w (Some y))
    once =
        merged a (given_way a w y) sound w (released_to a w (Some y)) least
        (way.forest ∙ sym (settle_some (forest_of a) (name_of a w) (name_of a y) (first_is a sound w hw ∙ ap (option_map (name_of a)) (sym is_first))))
        (ap (released_to a w) is_first) way.gone way.owns

    pub once_merged : (c : Arena) → c ≡ given_way a w y → IsMerged a c (released_to a w (Some y))
    once_merged c is = subst (λ x. IsMerged a x (released_to a w (Some y))) (sym is) once

    pub once_sound : (c : Arena) → c ≡ given_way a w y → IsSound c
    once_sound c is = subst IsSound (sym is) way.sound
