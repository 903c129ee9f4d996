-- One page is copied after the other.
use Rattle.std.specs.Prelude.{IfSome}
use Rattle.std.proofs.Common.{◌≡◌, ◌≢◌, ℕ, zero, suc, ◌+◌, ◌<◌, ◌≤◌, false, List, [], ◌∷◌, map, Option, Some, None, is_some, refl, sym, ap, ◌∙◌, subst, arith, inl, inr}
use Rattle.vm_ids.specs.declared.numbers.CacheId.{CacheId}
use Rattle.vm_ids.specs.declared.numbers.NodeId.{NodeId}
use Rattle.vm_ids.specs.declared.numbers.PageNo.{PageNo}
use Rattle.vm_ids.specs.Forest.Commands.{copy_pages, page_name, page_pairs}
use Rattle.vm_ids.specs.Forest.Nodes.{Forest}
use Rattle.vm_ids.specs.Forest.Rules.{copy_page}
use Rattle.local_cache.specs.declared.own_state.OwnState.{OwnState}
use Rattle.local_cache.specs.declared.own_state.OwnState.TheVariants.{Absent}
use Rattle.local_cache.specs.Arena.{Arena, Cell, HasNode, cell, find}
use Rattle.local_cache.specs.Many.{HaveNone}
use Rattle.local_cache.specs.ManyNodes.{each, next_if, next_node}
use Rattle.local_cache.specs.NodeCells.{exchanged, renewed, tree_of, with_child}
use Rattle.local_cache.specs.OnCells.{on_cell}
use Rattle.local_cache.specs.Reading.{forest_of}
use Rattle.local_cache.specs.Sound.{IsSound, ◌∈◌}
use Rattle.local_cache.proofs.Tables.Sizes.{sizes_same, sizes_then}
use Rattle.tree_merge.specs.Copying.{AreApart, AreSameOrApart, CanCopyMany, IsEmpty, IsLeafOf, copied_many, page_after}
use Rattle.tree_merge.specs.Stepping.{AreCopied}
use Rattle.tree_merge.proofs.ChildLists.TreeLists.{exchanged-in}
use Rattle.tree_merge.proofs.CopiedPages.Changes.{cell_by}
use Rattle.tree_merge.proofs.CopiedPages.Kinds.{Kind, page_by}
use Rattle.tree_merge.proofs.CopiedPages.Linking.{all_rows, copying, each_copied, linked_rows}
use Rattle.tree_merge.proofs.CopiedPages.OnePage.{CanCopyLeaf, LeafCopied, in_order, leaf_first, leaf_more, not_free}
use Rattle.tree_merge.proofs.CopiedPages.Rows.{AllPass, EachPass, IsClear, Pass, apart_back, later_clear, pass_apart, pass_same}
use Rattle.tree_merge.proofs.LeafRenewed.{parent_listed}
use Rattle.tree_merge.proofs.PagesAlone.Copied.{copied_rule, copied_sizes}

-- one more pair, behind the others
pairs_more : {P : Type 0} (c : CacheId) (p : ℕ) (d : CacheId) (q k : ℕ) (f : Forest P)
    → copy_pages false (page_pairs c p d q (suc k)) f ≡ copy_page false (copy_pages false (page_pairs c p d q k) f) (page_name d (q + k)) (page_name c (p + k))
pairs_more c p d q zero f =
    let to : q ≡ q + 0 = omega arith in
    let from : p ≡ p + 0 = omega arith in
    λ i. copy_page false f (page_name d (to i)) (page_name c (from i))
pairs_more c p d q (suc k) f =
    let g = copy_page false f (page_name d q) (page_name c p) in
    let to : q + 1 + k ≡ q + suc k = omega arith in
    let from : p + 1 + k ≡ p + suc k = omega arith in
    pairs_more c (p + 1) d (q + 1) k g
    ∙ (λ i. copy_page false (copy_pages false (page_pairs c (p + 1) d (q + 1) k) g) (page_name d (to i)) (page_name c (from i)))

-- the nodes of one page
in_page : (ns : List NodeId) (k : ℕ) (n : NodeId) → n ∈ map (λ m. next_node m k) ns → (m : NodeId) × (m ∈ ns) × (n ≡ next_node m k)
in_page [] k n is = absurd is
in_page (m ∷ ns) k n (inl e) = (m, inl refl, e)
in_page (m ∷ ns) k n (inr is) = let other = in_page ns k n is in (other.0, inr other.1, other.2)

-- One page after the other

module _ (a : Arena) (ns : List NodeId) (to : CacheId) (to_page : PageNo) (from : CacheId) (from_page : PageNo) (count : ℕ) where
  -- so many pages are copied, and nothing is changed at the nodes of others
  pub record SoFar (b : Arena) (k : ℕ) : Type 0 where
    pub copied : AreCopied a b to to_page from from_page k
    pub same : (n : NodeId) → IsClear ns n k → find b n ≡ find a n

  none_yet : IsSound a → SoFar a 0
  none_yet sound = record {
    copied = record { forest = refl; sound = sound; sizes = sizes_same a a refl; room = omega arith; in_turn = refl };
    same = λ n clear. refl;
  }

  one_more : (b c : Arena) (k : ℕ) → SoFar b k → LeafCopied b c (map (λ m. next_node m k) ns) to (page_after to_page k) from (page_after from_page k) → SoFar c (suc k)
  one_more b c k so_far page =
      let alone = page.bare.copied in
      record {
        copied = record {
          forest = copied_rule b c to (page_after to_page k) from (page_after from_page k) false _ alone
              ∙ ap (λ (f : Forest OwnState). copy_page false f (page_name to (to_page.0 + k)) (page_name from (from_page.0 + k))) so_far.copied.forest
              ∙ sym (pairs_more from from_page.0 to to_page.0 k (forest_of a));
          sound = alone.sound;
          sizes = sizes_then a b c so_far.copied.sizes (copied_sizes b c to (page_after to_page k) from (page_after from_page k) false _ alone);
          room = omega (arith, page.room, so_far.copied.room);
          in_turn = (b, so_far.copied.in_turn, page.bare);
        };
        same = λ n clear.
            page.same n (λ is. let m = in_page ns k n is in clear m.0 m.1 k (omega arith) m.2)
            ∙ so_far.same n (λ m has j less. clear m has j (omega arith));
      }

  -- a step that copies the next page, wherever its nodes are as they were
  abbrev pub CopiesNext : Kind → Type 0
  CopiesNext step = (b : Arena) (k : ℕ) → k < count → IsSound b → a.room.nodes ≤ b.room.nodes + k
      → ((n : NodeId) → n ∈ ns → find b (next_node n k) ≡ find a (next_node n k))
      → LeafCopied b (step k b) (map (λ m. next_node m k) ns) to (page_after to_page k) from (page_after from_page k)

  all_pages : AllPass ns count → IsSound a → (step : Kind) → CopiesNext step → (k : ℕ) → k ≤ count → SoFar (each step k a) k
  all_pages pass sound step copies zero le = none_yet sound
  all_pages pass sound step copies (suc k) le =
      let b : Arena = each step k a in
      let so_far : SoFar b k = all_pages pass sound step copies k (omega arith) in
      one_more b (step k b) k so_far
      (copies b k (omega arith) so_far.copied.sound so_far.copied.room (λ n is. so_far.same (next_node n k) (later_clear ns count pass n is k (omega arith))))

-- Many pages

module _ (a : Arena) (parent history : Option NodeId) (d s w : NodeId) (to : CacheId) (to_page : PageNo) (from : CacheId) (from_page : PageNo) (count : ℕ)
    (can : CanCopyMany a parent history d s w to to_page from from_page count) where
  held_d : (k : ℕ) → k < count → HasNode a (next_node d k)
  held_d k less = (can.destinations k less).0

  held_s : (k : ℕ) → k < count → HasNode a (next_node s k)
  held_s k less = (can.sources k less).0

  held_p : (p : NodeId) → parent ≡ Some p → (k : ℕ) → k < count → HasNode a (next_node p k)
  held_p p is k less =
      can.sound.kept.parents (next_node d k) (next_node p k) (held_d k less) (ap (λ l. l.parent) (can.leaves k less).links ∙ ap (λ o. next_if o k) is)

  held_h : (h : NodeId) → history ≡ Some h → (k : ℕ) → k < count → HasNode a (next_node h k)
  held_h h is k less =
      let only : exchanged (next_node d k) None (cell a (next_node s k)).tree ≡ next_node h k ∷ [] = can.trees k less ∙ ap (λ o. tree_of (next_if o k) None) is in
      elim (exchanged-in (next_node d k) None (cell a (next_node s k)).tree (next_node h k) (subst (λ ms. next_node h k ∈ ms) (sym only) (inl refl))) [
        | inl none ↦ absurd (cc none)
        | inr has ↦ can.sound.kept.children (next_node s k) (next_node h k) (held_s k less) has
      ]

  -- no node is the parent of one
  p_d : (p : NodeId) → parent ≡ Some p → Pass p d count
  p_d p is i j low high other e =
      parent_listed a can.sound (next_node d i) (next_node p i) (held_d i low) (subst (λ o. IsLeafOf (next_if o i) (cell a (next_node d i))) is (can.leaves i low))
      (subst (λ n. (cell a n).tree ≡ []) (sym e) (can.leaves j high).tree)

  p_s : (p : NodeId) → parent ≡ Some p → Pass p s count
  p_s p is = pass_same p s count (subst (λ o. IfSome o (λ n. AreSameOrApart n s count)) is can.free.sources)

  p_h : (p h : NodeId) → parent ≡ Some p → history ≡ Some h → Pass p h count
  p_h p h is has = pass_same p h count
      (subst (λ o. IfSome o (λ n. AreSameOrApart p n count)) has (subst (λ o. IfSome o (λ n. IfSome history (λ m. AreSameOrApart n m count))) is can.free.parents))

  histories : (h : NodeId) → history ≡ Some h → AreApart h s count × AreApart h d count
  histories h has = subst (λ o. IfSome o (λ n. AreApart n s count × AreApart n d count)) has can.free.histories

  working : (h : NodeId) → history ≡ Some h → HaveNone a w count × (count ≤ a.room.nodes)
  working h has = subst (λ o. IfSome o (λ _. HaveNone a w count × (count ≤ a.room.nodes))) has can.working

  -- no number of a node is one of a new working node
  old_new : (n h : NodeId) → history ≡ Some h → ((k : ℕ) → k < count → HasNode a (next_node n k)) → AreApart n w count
  old_new n h has held i low j high = not_free a (next_node n i) (next_node w j) (held i low) ((working h has).0 j high)

  linked_pass : (r : Option NodeId) → history ≡ r → AllPass (linked_rows r d s w) count
  linked_pass None has = ((pass_apart d s count can.apart, tt), (tt, tt))
  linked_pass (Some h) has =
      let d_w : Pass d w count = pass_apart d w count (old_new d h has held_d) in
      let s_w : Pass s w count = pass_apart s w count (old_new s h has held_s) in
      let w_h : Pass w h count = pass_apart w h count (apart_back h w count (old_new h h has (held_h h has))) in
      let d_h : Pass d h count = pass_apart d h count (apart_back h d count (histories h has).1) in
      let s_h : Pass s h count = pass_apart s h count (apart_back h s count (histories h has).0) in
      ((pass_apart d s count can.apart, (d_w, (d_h, tt))), ((s_w, (s_h, tt)), ((w_h, tt), (tt, tt))))

  parent_pass : (p : NodeId) (r : Option NodeId) → parent ≡ Some p → history ≡ r → EachPass p (linked_rows r d s w) count
  parent_pass p None is has = (p_d p is, (p_s p is, tt))
  parent_pass p (Some h) is has = (p_d p is, (p_s p is, (pass_apart p w count (old_new p h has (held_p p is)), (p_h p h is has, tt))))

  rows_pass : (o r : Option NodeId) → parent ≡ o → history ≡ r → AllPass (all_rows o r d s w) count
  rows_pass None r is has = linked_pass r has
  rows_pass (Some p) r is has = (parent_pass p r is has, linked_pass r has)

  -- the next page, wherever its nodes are as they were
  module _ (b : Arena) (k : ℕ) (less : k < count) (sound : IsSound b) (room : a.room.nodes ≤ b.room.nodes + k)
      (same_d : find b (next_node d k) ≡ find a (next_node d k)) (same_s : find b (next_node s k) ≡ find a (next_node s k)) where
    cell_d : cell b (next_node d k) ≡ cell a (next_node d k)
    cell_d = cell_by a b (next_node d k) same_d

    cell_s : cell b (next_node s k) ≡ cell a (next_node s k)
    cell_s = cell_by a b (next_node s k) same_s

    next_can : (o r : Option NodeId) → parent ≡ o → history ≡ r
        → CanCopyLeaf b (next_if o k) (next_if r k) (next_node d k) (next_node s k) to (page_after to_page k) from (page_after from_page k)
    next_can o r is has = record {
      sound = sound;
      held_d = ap is_some same_d ∙ held_d k less;
      leaf = subst (λ (c : Cell). IsLeafOf (next_if o k) c) (sym cell_d) (subst (λ p. IsLeafOf (next_if p k) (cell a (next_node d k))) is (can.leaves k less));
      empty = subst (λ (c : Cell). IsEmpty c.own) (sym cell_d) (can.empty k less);
      named_d = ap (λ (c : Cell). c.name) cell_d ∙ (can.destinations k less).1;
      held_s = ap is_some same_s ∙ held_s k less;
      named_s = ap (λ (c : Cell). c.name) cell_s ∙ (can.sources k less).1;
      apart = λ e. can.apart k less k less (sym e);
      tree = ap (λ (c : Cell). exchanged (next_node d k) None c.tree) cell_s ∙ can.trees k less ∙ ap (λ h. tree_of (next_if h k) None) has;
    }

    next_first : (o : Option NodeId) → parent ≡ o → history ≡ None
        → LeafCopied b (page_by (copying o None d s w) k b) (map (λ m. next_node m k) (all_rows o None d s w)) to (page_after to_page k) from (page_after from_page k)
    next_first None is has =
        leaf_first b (next_node d k) (next_node s k) None None to (page_after to_page k) from (page_after from_page k) (next_can None None is has) refl
    next_first (Some p) is has =
        leaf_first b (next_node d k) (next_node s k) (Some (next_node p k)) None to (page_after to_page k) from (page_after from_page k) (next_can (Some p) None is has) refl

    module _ (h : NodeId) (has : history ≡ Some h) (same_w : find b (next_node w k) ≡ find a (next_node w k)) where
      free : find b (next_node w k) ≡ None
      free = same_w ∙ (working h has).0 k less

      s_w : next_node s k ≢ next_node w k
      s_w = old_new s h has held_s k less k less

      roomy : 1 ≤ b.room.nodes
      roomy = omega (arith, room, (working h has).1)

      next_more : (o : Option NodeId) → parent ≡ o
          → LeafCopied b (page_by (copying o (Some h) d s w) k b) (map (λ m. next_node m k) (all_rows o (Some h) d s w)) to (page_after to_page k) from (page_after from_page k)
      next_more None is =
          let ms : List NodeId = next_node d k ∷ next_node s k ∷ next_node w k ∷ next_node h k ∷ [] in
          subst (λ (c : Arena). LeafCopied b c ms to (page_after to_page k) from (page_after from_page k))
          (in_order (on_cell b (next_node d k) (renewed Absent)) (next_node s k) (next_node w k) (next_node h k) (next_node d k) s_w)
          (leaf_more b (next_node d k) (next_node s k) None (Some (next_node h k)) to (page_after to_page k) from (page_after from_page k) (next_can None (Some h) is has)
          (next_node h k) (next_node w k) refl free roomy)
      next_more (Some p) is =
          let ms : List NodeId = next_node p k ∷ next_node d k ∷ next_node s k ∷ next_node w k ∷ next_node h k ∷ [] in
          let left : Arena = on_cell b (next_node p k) (with_child (next_node d k) None) in
          subst (λ (c : Arena). LeafCopied b c ms to (page_after to_page k) from (page_after from_page k))
          (in_order (on_cell left (next_node d k) (renewed Absent)) (next_node s k) (next_node w k) (next_node h k) (next_node d k) s_w)
          (leaf_more b (next_node d k) (next_node s k) (Some (next_node p k)) (Some (next_node h k)) to (page_after to_page k) from (page_after from_page k) (next_can (Some p) (Some h) is has)
          (next_node h k) (next_node w k) refl free roomy)

  -- the nodes of the linked pages among all
  among : (o r : Option NodeId) (n : NodeId) → n ∈ linked_rows r d s w → n ∈ all_rows o r d s w
  among None r n is = is
  among (Some p) r n is = inr is

  d_among : (r : Option NodeId) → d ∈ linked_rows r d s w
  d_among None = inl refl
  d_among (Some h) = inl refl

  s_among : (r : Option NodeId) → s ∈ linked_rows r d s w
  s_among None = inr (inl refl)
  s_among (Some h) = inr (inl refl)

  copies_next : (o r : Option NodeId) → parent ≡ o → history ≡ r → CopiesNext a (all_rows o r d s w) to to_page from from_page count (page_by (copying o r d s w))
  copies_next o None is has b k less sound room same =
      next_first b k less sound room (same d (among o None d (d_among None))) (same s (among o None s (s_among None))) o is has
  copies_next o (Some h) is has b k less sound room same =
      next_more b k less sound room (same d (among o (Some h) d (d_among (Some h)))) (same s (among o (Some h) s (s_among (Some h)))) h has
      (same w (among o (Some h) w (inr (inr (inl refl))))) o is

  -- so they are all copied at once
  pub copied_at_once : AreCopied a (copied_many a parent history d s w count) to to_page from from_page count
  copied_at_once =
      let pass : AllPass (all_rows parent history d s w) count = rows_pass parent history refl refl in
      subst (λ (b : Arena). AreCopied a b to to_page from from_page count) (each_copied d s w count a parent history pass)
      (all_pages a (all_rows parent history d s w) to to_page from from_page count pass can.sound (page_by (copying parent history d s w)) (copies_next parent history refl refl) count (omega arith)).copied
