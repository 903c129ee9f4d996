-- The only child takes the page and the place of a node where neither hangs by a stub link: it and
-- the parent are written once each.
use Rattle.std.proofs.Common.{◌≡◌, ◌≢◌, ◌<◌, false, Option, Some, None, refl, sym, ap, ap₂, ◌∙◌, subst, arith}
use Rattle.std.specs.Prelude.{IfSome}
use Rattle.vm_ids.specs.Forest.Changes.{cut}
use Rattle.vm_ids.specs.Forest.Nodes.{child_count, node, parent, parent_of}
use Rattle.vm_ids.specs.Forest.Nodes.Hang.{Root}
use Rattle.vm_ids.specs.Forest.Settling.{pass_page}
use Rattle.vm_ids.specs.declared.numbers.NodeId.{NodeId}
use Rattle.local_cache.specs.declared.own_state.OwnState.{OwnState}
use Rattle.local_cache.specs.Arena.{Arena, Cell, HasNode, cell, hung, with_own, with_tree, without}
use Rattle.local_cache.specs.NodeCells.{exchanged, hanging, owning, with_child}
use Rattle.local_cache.specs.OnCells.{cut_from, on_cell}
use Rattle.local_cache.specs.Own.{own_of}
use Rattle.local_cache.specs.Reading.{forest_of, hang_by, name_of}
use Rattle.local_cache.specs.Sound.{IsSound}
use Rattle.local_cache.proofs.Changes.SameNodes.{links-with_links_other, links-with_tree, parent-read}
use Rattle.local_cache.proofs.Forest.Reading.{node-forest_of}
use Rattle.local_cache.proofs.Nodes.Cells.{cell-put_other}
use Rattle.history_tree.proofs.OnCells.{on_swap, on_twice}
use Rattle.tree_merge.specs.Releasing.{HasGivenWay, given, released_to}
use Rattle.tree_merge.specs.Staying.{HasNoChild, IsBelow, placed}
use Rattle.tree_merge.proofs.CopiedPages.Changes.{without_put}
use Rattle.tree_merge.proofs.Merge.Page.{Passed, passed}
use Rattle.tree_merge.proofs.Merge.Step.{cut_root, given_forest, given_gone, given_owns, given_released, passed_below, passed_none, passed_root}
use Rattle.tree_merge.proofs.Place.Heir.{give_way-Freed, no_parent-placed, tree-placed}
use Rattle.tree_merge.proofs.Place.Step.{Step}
use Rattle.tree_merge.proofs.Place.TreeCut.{cut_tree-Step}
use Rattle.tree_merge.proofs.Place.TreeExchange.{take_tree_place-Step}

-- What is written

module _ (a : Arena) (w y : NodeId) (y_w : y ≢ w) (s : OwnState) where
  abbrev w_y : w ≢ y
  w_y e = y_w (sym e)

  -- y is cut off, and has its state
  abbrev cut_off : Arena
  cut_off = hung (with_tree a w (exchanged y None (cell a w).tree)) y None

  abbrev loose : Arena
  loose = with_own cut_off y s

  -- the same before anything is written to w
  abbrev loose_first : Arena
  loose_first = on_cell (on_cell a y (hanging None)) y (owning s)

  loose_is : loose ≡ on_cell loose_first w (with_child y None)
  loose_is =
      ap (λ (x : Arena). on_cell x y (owning s)) (on_swap a w y (with_child y None) (hanging None) w_y)
      ∙ on_swap (on_cell a y (hanging None)) w y (with_child y None) (owning s) w_y

  -- where y is written last, it doesn't matter that it was cut off
  hung_last : (x : Arena) (up : Option NodeId) → on_cell (on_cell (on_cell x y (hanging None)) y (owning s)) y (hanging up) ≡ on_cell (on_cell x y (owning s)) y (hanging up)
  hung_last x up =
      ap (λ (z : Arena). on_cell z y (hanging up)) (on_twice x y (hanging None) (owning s))
      ∙ on_twice x y (λ c. owning s (hanging None c)) (hanging up)
      ∙ sym (on_twice x y (owning s) (hanging up))

  -- w has no parent
  once_root : without loose w ≡ without (hung (with_own a y s) y None) w
  once_root =
      ap (λ (x : Arena). without x w) loose_is
      ∙ without_put loose_first w (with_child y None (cell loose_first w)) refl
      ∙ ap (λ (x : Arena). without x w) (on_twice a y (hanging None) (owning s) ∙ sym (on_twice a y (owning s) (hanging None)))

  -- w hangs on p by a tree link
  module _ (p : NodeId) (p_y : p ≢ y) (p_w : p ≢ w) where
    abbrev w_p : w ≢ p
    w_p e = p_w (sym e)

    abbrev y_p : y ≢ p
    y_p e = p_y (sym e)

    abbrev put_under : Arena
    put_under = hung (with_tree loose p (exchanged w (Some y) (cell loose p).tree)) y (Some p)

    -- the same before anything is written to w
    abbrev hung_first : Arena
    hung_first = on_cell (on_cell loose_first p (with_child w (Some y))) y (hanging (Some p))

    put_under_is : put_under ≡ on_cell hung_first w (with_child y None)
    put_under_is =
        ap (λ (x : Arena). on_cell (on_cell x p (with_child w (Some y))) y (hanging (Some p))) loose_is
        ∙ ap (λ (x : Arena). on_cell x y (hanging (Some p))) (on_swap loose_first w p (with_child y None) (with_child w (Some y)) w_p)
        ∙ on_swap (on_cell loose_first p (with_child w (Some y))) w y (with_child y None) (hanging (Some p)) w_y

    tree_first : on_cell loose_first p (with_child w (Some y)) ≡ on_cell (on_cell (on_cell a p (with_child w (Some y))) y (hanging None)) y (owning s)
    tree_first =
        on_swap (on_cell a y (hanging None)) y p (owning s) (with_child w (Some y)) y_p
        ∙ ap (λ (x : Arena). on_cell x y (owning s)) (on_swap a y p (hanging None) (with_child w (Some y)) y_p)

    once_tree : without (hung put_under w None) w ≡ without (hung (with_own (on_cell a p (with_child w (Some y))) y s) y (Some p)) w
    once_tree =
        without_put put_under w (hanging None (cell put_under w)) refl
        ∙ ap (λ (x : Arena). without x w) put_under_is
        ∙ without_put hung_first w (with_child y None (cell hung_first w)) refl
        ∙ ap (λ (x : Arena). without x w) (ap (λ (x : Arena). on_cell x y (hanging (Some p))) tree_first ∙ hung_last (on_cell a p (with_child w (Some y))) (Some p))

-- What is needed

pub parent_held : (a : Arena) → IsSound a → (w : NodeId) → HasNode a w → (up : Option NodeId) → up ≡ (cell a w).links.parent → IfSome up (λ p. HasNode a p)
parent_held a sound w hw None is = tt
parent_held a sound w hw (Some p) is = sound.kept.parents w p hw (sym is)

-- What it is

module _ (a : Arena) (sound : IsSound a) (w y : NodeId) (hw : HasNode a w) (hy : HasNode a y) (up : parent (forest_of a) (name_of a y) ≡ Some (name_of a w))
    (few : child_count (forest_of a) (name_of a w) < 2) (w_tree : (cell a w).links.by_stub ≡ false) (y_tree : (cell a y).links.by_stub ≡ false) where
  abbrev s : OwnState
  s = given (own_of a w) (own_of a y)

  -- the parent of y, by its number
  parent_is : (cell a y).links.parent ≡ Some w
  parent_is = go (cell a y).links.parent refl
    where
      read : parent (forest_of a) (name_of a y) ≡ parent_of (hang_by a (cell a y).links.parent (cell a y).links.by_stub)
      read = ap (λ m. parent_of m.hang) (node-forest_of a sound.kept.named y hy)

      go : (o : Option NodeId) → (cell a y).links.parent ≡ o → (cell a y).links.parent ≡ Some w
      go None e =
          let clash : Some (name_of a w) ≡ None = sym up ∙ read ∙ ap (λ o. parent_of (hang_by a o (cell a y).links.by_stub)) e in
          cc clash
      go (Some q) e =
          let named : Some (name_of a q) ≡ Some (name_of a w) = sym (parent-read a sound.kept.named y q hy e) ∙ up in
          let name : name_of a q ≡ name_of a w = cc named in
          e ∙ ap Some (sound.kept.named.apart q w (sound.kept.parents y q hy e) hw name)

  y_w : y ≢ w
  y_w e = let less = sound.linked.order.1 (name_of a y) (name_of a w) up in let same = ap (λ n. sound.linked.order.0 (name_of a n)) e in absurd (omega (arith, less, same))

  abbrev b : Arena
  b = cut_off a w y y_w s

  abbrev c : Arena
  c = loose a w y y_w s

  cut_y : Step a b (cut (forest_of a) (name_of a y))
  cut_y = cut_tree-Step a sound y w hy parent_is y_tree _ _ refl refl

  hw_b : HasNode b w
  hw_b = cut_y.rehung.like.held w ∙ hw

  hy_b : HasNode b y
  hy_b = cut_y.rehung.like.held y ∙ hy

  passed_y : Passed b c (pass_page (forest_of b) (name_of b w) (name_of b y)) (released_to b w (Some y))
  passed_y =
      passed b cut_y.sound w y hw_b hy_b (cut_root a sound w y up few b cut_y.forest cut_y.rehung)
      s (sym (ap₂ given (cut_y.rehung.own w) (cut_y.rehung.own y))) c refl (released_to b w (Some y)) refl

  hw_c : HasNode c w
  hw_c = passed_y.like.held w ∙ hw_b

  hy_c : HasNode c y
  hy_c = passed_y.like.held y ∙ hy_b

  root_c : (node (forest_of c) (name_of c y)).hang ≡ Root
  root_c = passed_root a sound w y up few b cut_y.forest cut_y.rehung c passed_y.forest passed_y.like

  below_c : IsBelow (forest_of c) (name_of c w) (name_of c y)
  below_c = passed_below a sound w y up few b cut_y.forest cut_y.rehung c passed_y.forest passed_y.like

  none_c : HasNoChild (forest_of c) (name_of c w)
  none_c = passed_none a sound w y up few b cut_y.forest cut_y.rehung c passed_y.forest passed_y.like

  -- the links of w are what they were
  links_c : (cell c w).links ≡ (cell a w).links
  links_c =
      ap (λ (k : Cell). k.links) (cell-put_other b y w _ (λ e. y_w (sym e)))
      ∙ links-with_links_other (with_tree a w (exchanged y None (cell a w).tree)) y w _ (λ e. y_w (sym e))
      ∙ links-with_tree a w (exchanged y None (cell a w).tree) w

  -- y is in the place of w, and w goes
  gives : (d : Arena) → Step c d (placed (forest_of c) (name_of c w) (name_of c y)) → HasGivenWay a (without d w) w y (released_to a w (Some y))
  gives d step =
      let freed = give_way-Freed c d (without d w) passed_y.sound w y hw_c root_c below_c none_c step refl in
      let told = given_released a b w y (released_to b w (Some y)) cut_y.rehung refl in
      subst (HasGivenWay a (without d w) w y) told (record {
        forest = given_forest a sound w y up few b cut_y.forest cut_y.rehung c passed_y.forest passed_y.like (without d w) freed.forest;
        sound = freed.sound;
        told = told;
        gone = given_gone a sound w y up few b cut_y.forest cut_y.rehung c passed_y.forest passed_y.like (without d w) passed_y.counters passed_y.room freed.gone;
        owns = given_owns a b c (without d w) w (released_to b w (Some y)) cut_y.rehung passed_y.owns freed.owns;
      })

  module _ (p : NodeId) (up_w : (cell a w).links.parent ≡ Some p) where
    p_lower : sound.linked.order.0 (name_of a p) < sound.linked.order.0 (name_of a w)
    p_lower = sound.linked.order.1 (name_of a w) (name_of a p) (parent-read a sound.kept.named w p hw up_w)

    p_w : p ≢ w
    p_w e = let same = ap (λ n. sound.linked.order.0 (name_of a n)) e in absurd (omega (arith, p_lower, same))

    p_y : p ≢ y
    p_y e =
        let less = sound.linked.order.1 (name_of a y) (name_of a w) up in
        let same = ap (λ n. sound.linked.order.0 (name_of a n)) e in
        absurd (omega (arith, p_lower, less, same))

    up_c : (cell c w).links.parent ≡ Some p
    up_c = ap (λ l. l.parent) links_c ∙ up_w

    tree_c : (cell c w).links.by_stub ≡ false
    tree_c = ap (λ l. l.by_stub) links_c ∙ w_tree

    abbrev d : Arena
    d = hung (put_under a w y y_w s p p_y p_w) w None

    placed_y : Step c d (placed (forest_of c) (name_of c w) (name_of c y))
    placed_y =
        subst (Step c d) (sym (tree-placed c passed_y.sound w y hw_c hy_c root_c p up_c tree_c))
        (take_tree_place-Step c passed_y.sound w y p hw_c hy_c up_c tree_c root_c below_c _ _ _ refl refl refl)

  pub given_at_once : (o : Option NodeId) → (cell a w).links.parent ≡ o → HasGivenWay a (without (hung (with_own (cut_from a o w (Some y)) y s) y o) w) w y (released_to a w (Some y))
  given_at_once None none =
      subst (λ (k : Arena). HasGivenWay a k w y (released_to a w (Some y))) (once_root a w y y_w s)
      (gives c (no_parent-placed c passed_y.sound w y hw_c hy_c root_c (ap (λ l. l.parent) links_c ∙ none)))
  given_at_once (Some p) is =
      subst (λ (k : Arena). HasGivenWay a k w y (released_to a w (Some y))) (once_tree a w y y_w s p (p_y p is) (p_w p is))
      (gives (d p is) (placed_y p is))
