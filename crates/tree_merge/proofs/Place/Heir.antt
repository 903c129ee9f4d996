-- The only child of a node in its place, and the node freed.
use Rattle.std.proofs.Common.{◌≡◌, ◌≢◌, Bool, true, false, cond, not, ◌&&◌, Some, None, is_some, map, refl, sym, ap, ap₂, ◌∙◌, subst, inl, inr, arith}
use Rattle.vm_ids.specs.declared.node_name.NodeName.{NodeName}
use Rattle.vm_ids.proofs.Forest.Names.{name_cases}
use Rattle.vm_ids.specs.Forest.NameLists.{renamed}
use Rattle.vm_ids.specs.Forest.Nodes.{Forest, node, IsNode, is_stub, parent, parent_of}
use Rattle.vm_ids.specs.Forest.Nodes.Hang.{Root}
use Rattle.vm_ids.specs.Forest.Shape.{IsLinked}
use Rattle.vm_ids.specs.Forest.Changes.{edit, free, cut, relist, with_hang}
use Rattle.vm_ids.specs.Forest.Settling.{take_place, give_way}
use Rattle.vm_ids.proofs.Forest.Cutting.{cut-hang}
use Rattle.vm_ids.proofs.Forest.TakingPlace.{hang_w, hang_y, hang_other}
use Rattle.vm_ids.specs.declared.numbers.NodeId.{NodeId}
use Rattle.local_cache.specs.declared.own_state.OwnState.{OwnState}
use Rattle.local_cache.specs.Arena.{Arena, cell, HasNode, without}
use Rattle.local_cache.specs.Own.{is_absent, own_of}
use Rattle.local_cache.specs.Changes.{Rehung}
use Rattle.local_cache.specs.Reading.{name_of, forest_of, hang_by}
use Rattle.local_cache.specs.Sound.{IsSound}
use Rattle.local_cache.proofs.Changes.SameNodes.{rehung_itself}
use Rattle.local_cache.proofs.Forest.Reading.{node-forest_of, IsNode-forest_of}
use Rattle.page_stubs.specs.Under.{IsUnder}
use Rattle.page_stubs.proofs.Rules.Ranks.{under_ranked}
use Rattle.tree_merge.specs.Staying.{HasNoChild, IsBelow, placed}
use Rattle.tree_merge.proofs.ChildLists.Names.{none-cut}
use Rattle.tree_merge.proofs.Place.Cut.{put_same}
use Rattle.tree_merge.proofs.Leaving.Freed.{Freed, free-Freed, gone-rehung}
use Rattle.tree_merge.proofs.Merge.Page.{page_none, page_some}
use Rattle.tree_merge.proofs.Place.Step.{Step}
use Rattle.tree_merge.proofs.Place.TreeExchange.{below_apart}

-- w isn't under a node that may hang below it
pub below_clear : {P : Type 0} (f : Forest P) (w y : NodeName) → IsBelow f w y → IsUnder f w y → ⊥
below_clear f w y below under = let high = under_ranked f below.0 below.1 under in let low = below.2 in omega arith

module _ {P : Type 0} (f : Forest P) (w y : NodeName) where
  -- which of the two it is
  pub placed_cut : is_stub (node f w).hang ≡ true → is_some (node f y).own ≡ true → placed f w y ≡ cut f w
  placed_cut s o = ap₂ (λ b c. cond (b && c) (cut f w) (take_place f w y)) s o

  pub placed_bare : is_some (node f y).own ≡ false → placed f w y ≡ take_place f w y
  placed_bare o = ap (λ c. cond (is_stub (node f w).hang && c) (cut f w) (take_place f w y)) o ∙ go (is_stub (node f w).hang)
    where
      go : (b : Bool) → cond (b && false) (cut f w) (take_place f w y) ≡ take_place f w y
      go true = refl
      go false = refl

  pub placed_tree : is_stub (node f w).hang ≡ false → placed f w y ≡ take_place f w y
  placed_tree s = ap (λ b. cond (b && is_some (node f y).own) (cut f w) (take_place f w y)) s

  -- where w has no parent nothing changes
  pub take_root : IsNode f w → IsNode f y → (node f w).hang ≡ Root → (node f y).hang ≡ Root → take_place f w y ≡ f
  unfolding take_place relist
  take_root is_w is_y root_w root_y =
      ap (λ h. edit (edit (relist f h (map (renamed w y))) y (with_hang h)) w (with_hang Root)) root_w
      ∙ ap (λ g. edit g w (with_hang Root)) (put_same f y (with_hang Root (node f y)) is_y (λ i. record (node f y) { hang = sym root_y i }))
      ∙ put_same f w (with_hang Root (node f w)) is_w (λ i. record (node f w) { hang = sym root_w i })

  -- w stands alone then
  module _ (linked : IsLinked f) (root : (node f y).hang ≡ Root) (below : IsBelow f w y) where
    apart : y ≢ w
    apart = below_apart f w y below

    taken_none : HasNoChild f w → HasNoChild (take_place f w y) w
    taken_none none z up = elim (name_cases z w) [
      | inl e ↦ (let clash : Some w ≡ None = sym up ∙ ap (λ v. parent (take_place f w y) v) e ∙ ap parent_of (hang_w f linked w y apart root) in cc clash)
      | inr a ↦ elim (name_cases z y) [
        | inl e ↦ none w (ap parent_of (sym (hang_y f linked w y apart root)) ∙ ap (λ v. parent (take_place f w y) v) (sym e) ∙ up)
        | inr b ↦ none z (ap parent_of (sym (hang_other f linked w y apart root z a b)) ∙ up)
      ]
    ]

    pub placed_root : (node (placed f w y) w).hang ≡ Root
    placed_root = go (is_stub (node f w).hang && is_some (node f y).own)
      where
        go : (b : Bool) → (node (cond b (cut f w) (take_place f w y)) w).hang ≡ Root
        go true = cut-hang f w
        go false = hang_w f linked w y apart root

    pub placed_none : HasNoChild f w → HasNoChild (placed f w y) w
    placed_none none = go (is_stub (node f w).hang && is_some (node f y).own)
      where
        go : (b : Bool) → HasNoChild (cond b (cut f w) (take_place f w y)) w
        go true = none-cut f linked w w none
        go false = taken_none none

-- the steps of `put_instead`
module _ (a : Arena) (is_sound : IsSound a) (w y : NodeId) (hw : HasNode a w) (hy : HasNode a y) (root : (node (forest_of a) (name_of a y)).hang ≡ Root) where
  abbrev f : Forest OwnState
  f = forest_of a

  hang_is : (node (forest_of a) (name_of a w)).hang ≡ hang_by a (cell a w).links.parent (cell a w).links.by_stub
  hang_is = ap (λ m. m.hang) (node-forest_of a is_sound.kept.named w hw)

  own_is : is_some (node (forest_of a) (name_of a y)).own ≡ not (is_absent (own_of a y))
  own_is = ap (λ m. is_some m.own) (node-forest_of a is_sound.kept.named y hy) ∙ page_some (own_of a y)

  pub no_parent-placed : (cell a w).links.parent ≡ None → Step a a (placed (forest_of a) (name_of a w) (name_of a y))
  no_parent-placed none = record {
    forest = sym (placed_tree (forest_of a) (name_of a w) (name_of a y) (ap is_stub root_w) ∙ take_root (forest_of a) (name_of a w) (name_of a y) (IsNode-forest_of a is_sound.kept.named w hw) (IsNode-forest_of a is_sound.kept.named y hy) root_w root);
    sound = is_sound;
    rehung = rehung_itself a;
  }
    where
      root_w : (node (forest_of a) (name_of a w)).hang ≡ Root
      root_w = hang_is ∙ ap (λ o. hang_by a o (cell a w).links.by_stub) none

  pub is_bare : is_absent (own_of a y) ≡ true → (node (forest_of a) (name_of a y)).own ≡ None
  is_bare own = ap (λ m. m.own) (node-forest_of a is_sound.kept.named y hy) ∙ page_none (own_of a y) own

  module _ (p : NodeId) (up : (cell a w).links.parent ≡ Some p) where
    pub tree-placed : (cell a w).links.by_stub ≡ false → placed (forest_of a) (name_of a w) (name_of a y) ≡ take_place (forest_of a) (name_of a w) (name_of a y)
    tree-placed by = placed_tree (forest_of a) (name_of a w) (name_of a y) (ap is_stub (hang_is ∙ ap (λ o. hang_by a o (cell a w).links.by_stub) up ∙ ap (hang_by a (Some p)) by))

    pub stub-placed : (cell a w).links.by_stub ≡ true → is_absent (own_of a y) ≡ false → placed (forest_of a) (name_of a w) (name_of a y) ≡ cut (forest_of a) (name_of a w)
    stub-placed by own = placed_cut (forest_of a) (name_of a w) (name_of a y) (ap is_stub (hang_is ∙ ap (λ o. hang_by a o (cell a w).links.by_stub) up ∙ ap (hang_by a (Some p)) by)) (own_is ∙ ap not own)

    pub is_a_stub : (cell a w).links.by_stub ≡ true → is_stub (node (forest_of a) (name_of a w)).hang ≡ true
    is_a_stub by = ap is_stub (hang_is ∙ ap (λ o. hang_by a o (cell a w).links.by_stub) up ∙ ap (hang_by a (Some p)) by)

    pub bare-placed : is_absent (own_of a y) ≡ true → placed (forest_of a) (name_of a w) (name_of a y) ≡ take_place (forest_of a) (name_of a w) (name_of a y)
    bare-placed own = placed_bare (forest_of a) (name_of a w) (name_of a y) (own_is ∙ ap not own)

-- the node goes
pub give_way-Freed : (a b c : Arena) → IsSound a → (w y : NodeId) → HasNode a w → (node (forest_of a) (name_of a y)).hang ≡ Root → IsBelow (forest_of a) (name_of a w) (name_of a y) → HasNoChild (forest_of a) (name_of a w)
    → Step a b (placed (forest_of a) (name_of a w) (name_of a y)) → c ≡ without b w → Freed a c w (give_way (forest_of a) (name_of a w) (name_of a y))
unfolding give_way
give_way-Freed a b c sound w y hw root below none step c_is =
    let f : Forest OwnState = forest_of a in
    let r : Rehung a b = step.rehung in
    let name_is = r.like.name w in
    let root_w : (node (forest_of b) (name_of b w)).hang ≡ Root =
    ap (λ x. (node (forest_of b) x).hang) name_is ∙ ap (λ g. (node g (name_of a w)).hang) step.forest ∙ placed_root (forest_of a) (name_of a w) (name_of a y) sound.linked root below in
    let none_w : HasNoChild (forest_of b) (name_of b w) =
    subst (λ x. HasNoChild (forest_of b) x) (sym name_is) (subst (λ g. HasNoChild g (name_of a w)) (sym step.forest) (placed_none (forest_of a) (name_of a w) (name_of a y) sound.linked root below none)) in
    let went = free-Freed b step.sound w (r.like.held w ∙ hw) root_w none_w c c_is in
    record {
      forest = went.forest ∙ ap (free (forest_of b)) name_is ∙ ap (λ g. free g (name_of a w)) step.forest;
      sound = went.sound;
      gone = gone-rehung a b c w r went.gone;
      owns = λ m ne. went.owns m ne ∙ r.own m;
    }
