-- What a call says that it released is what became of the nodes and their own states.
use Rattle.std.proofs.Common.{◌≡◌, ◌≢◌, ℕ, zero, suc, ◌+◌, ◌&&◌, Bool, true, false, not, cond, Option, Some, None, is_some, refl, sym, ap, ◌∙◌, subst, arith, inl, inr}
use Rattle.std.proofs.lemmas.Bool.{false≢true}
use Rattle.vm_ids.specs.declared.node_name.NodeName.TheVariants.{Working}
use Rattle.vm_ids.specs.declared.numbers.NodeId.{NodeId}
use Rattle.vm_ids.specs.Forest.Nodes.{child_count}
use Rattle.vm_ids.proofs.Places.{other_number, same_number}
use Rattle.local_cache.specs.declared.own_state.OwnState.{OwnState}
use Rattle.local_cache.specs.declared.own_state.OwnState.TheVariants.{Absent, Zero, Resident, Slot, OnSegment}
use Rattle.local_cache.specs.Arena as arena
use Rattle.local_cache.specs.Arena.{Arena, HasNode, as_working, cell, find}
use Rattle.local_cache.specs.Own.{is_absent, own_of}
use Rattle.local_cache.specs.Reading.{forest_of, name_of}
use Rattle.local_cache.specs.Sound.{IsSound}
use Rattle.local_cache.proofs.Nodes.Cells.{cell-put, cell-put_other, find-put, find-put_other}
use Rattle.local_cache.proofs.Nodes.OwnStates.{id_apart, id_cases}
use Rattle.tree_merge.specs.declared.released.Released.{Released}
use Rattle.tree_merge.specs.declared.released.Released.TheVariants.{Nothing, Dropped, Moved}
use Rattle.tree_merge.specs.Releasing.{IsDropped, IsMerged, IsReleased, IsRetired, IsStill, Went, first_child, own_after, released_to}
use Rattle.tree_merge.specs.Staying.{IsGone}
use Rattle.tree_merge.proofs.ChildLists.Names.{first_child_up}

-- A page was retired

working_cell : (a : Arena) (n m : NodeId) → cell (as_working a n) m ≡ cell (arena.put a n (record (cell a n) { name = Working (a.made + 1) })) m
unfolding cell
working_cell a n m = refl

working_own : (a : Arena) (n m : NodeId) → own_of (as_working a n) m ≡ own_of a m
working_own a n m = ap (λ c. c.own) (working_cell a n m) ∙ elim (id_cases m n) [
  | inl e ↦ ap (λ k. own_of (arena.put a n (record (cell a n) { name = Working (a.made + 1) })) k) e ∙ ap (λ c. c.own) (cell-put a n _) ∙ ap (own_of a) (sym e)
  | inr d ↦ ap (λ c. c.own) (cell-put_other a n m _ d)
]

pub working_name : (a : Arena) (n m : NodeId) → m ≢ n → name_of (as_working a n) m ≡ name_of a m
working_name a n m d = ap (λ c. c.name) (working_cell a n m) ∙ ap (λ c. c.name) (cell-put_other a n m _ d)

working_held : (a : Arena) (n m : NodeId) → HasNode a n → is_some (find (as_working a n) m) ≡ is_some (find a m)
working_held a n m there = elim (id_cases m n) [
  | inl e ↦ ap (λ k. is_some (find (arena.put a n (record (cell a n) { name = Working (a.made + 1) })) k)) e ∙ ap is_some (find-put a n _) ∙ sym there ∙ ap (λ k. is_some (find a k)) (sym e)
  | inr d ↦ ap is_some (find-put_other a n m _ d)
]

module _ (a b : Arena) (n : NodeId) (there : HasNode a n) (r : Released) (is : IsRetired a b n r) where
  leaf_dropped : IsGone a b n → ((m : NodeId) → m ≢ n → own_of b m ≡ own_of a m) → IsDropped a b n (own_of a n)
  leaf_dropped gone others = record { went = record { was = there; gone = gone.gone; held = gone.held }; state_is = refl; others = others }

  parent_still : b ≡ as_working a n → IsStill a b
  parent_still work = record {
    held = λ m. ap (λ (k : Arena). is_some (find k m)) work ∙ working_held a n m there;
    own = λ m. ap (λ (k : Arena). own_of k m) work ∙ working_own a n m;
  }

  pub retire_released : IsReleased a b r
  retire_released = go (child_count (forest_of a) (name_of a n)) refl
    where
      go : (k : ℕ) → child_count (forest_of a) (name_of a n) ≡ k → IsReleased a b r
      go zero e = let l = is.leaf e in subst (IsReleased a b) (sym l.0) (leaf_dropped l.1 (λ m d. l.2 m d ∙ ap (λ x. own_after a x m) l.0))
      go (suc k) e = let p = is.parent (omega (arith, e)) in subst (IsReleased a b) (sym p.0) (parent_still p.1)

-- One step of settle

absent_is : (x : OwnState) → is_absent x ≡ true → x ≡ Absent
absent_is Absent e = refl
absent_is Zero e = absurd (cc e)
absent_is (Resident d) e = absurd (cc e)
absent_is (Slot s) e = absurd (cc e)
absent_is OnSegment e = absurd (cc e)

module _ (a : Arena) (node : NodeId) where
  -- what it says of the node that went, and of the child that got its page
  abbrev pub ReleasedAt : Released → Type 0
  ReleasedAt Nothing = ⊥
  ReleasedAt (Dropped n s) = (n ≡ node) × (s ≡ own_of a node)
  ReleasedAt (Moved from to) = (from ≡ node) × (first_child a node ≡ Some to) × (is_absent (own_of a node) ≡ false) × (is_absent (own_of a to) ≡ true)

  released_at : (o : Option NodeId) → first_child a node ≡ o → ReleasedAt (released_to a node o)
  released_at None e = (refl, refl)
  released_at (Some y) e = go (is_absent (own_of a node)) (is_absent (own_of a y)) refl refl
    where
      go : (s t : Bool) → is_absent (own_of a node) ≡ s → is_absent (own_of a y) ≡ t → ReleasedAt (cond (not s && t) (Moved node y) (Dropped node (own_of a node)))
      go false true p q = (refl, e, p, q)
      go false false p q = (refl, refl)
      go true true p q = (refl, refl)
      go true false p q = (refl, refl)

module _ (a b : Arena) (sound : IsSound a) (r : Released) (is : IsMerged a b r) where
  pub merged_at : ReleasedAt a is.node r
  merged_at = subst (ReleasedAt a is.node) (sym is.told) (released_at a is.node (first_child a is.node) refl)

  went_as : (n : NodeId) → n ≡ is.node → Went a b n
  went_as n e = record {
    was = subst (HasNode a) (sym e) is.held;
    gone = subst (λ k. find b k ≡ None) (sym e) is.gone.gone;
    held = λ m d. is.gone.held m (λ q. d (q ∙ sym e));
  }

  merge_released : (q : Released) → r ≡ q → ReleasedAt a is.node q → IsReleased a b q
  merge_released Nothing e k = absurd k
  merge_released (Dropped n s) e k = record {
    went = went_as n k.0;
    state_is = k.1 ∙ ap (own_of a) (sym k.0);
    others = λ m d. is.owns m (λ q. d (q ∙ sym k.0)) ∙ ap (λ x. own_after a x m) e;
  }
  merge_released (Moved from to) e k =
      let ne : from ≢ to = λ q. false≢true (sym k.2 ∙ ap (λ n. is_absent (own_of a n)) (sym k.0 ∙ q) ∙ k.3) in
      record {
        went = went_as from k.0;
        apart = ne;
        there = (first_child_up a sound is.node is.held to (sym k.1)).0;
        absent = absent_is (own_of a to) k.3;
        passed = is.owns to (λ q. ne (k.0 ∙ sym q)) ∙ ap (λ x. own_after a x to) e ∙ ap (λ t. cond t (own_of a from) (own_of a to)) (same_number to.0);
        others = λ m d f. is.owns m (λ q. d (q ∙ sym k.0)) ∙ ap (λ x. own_after a x m) e ∙ ap (λ t. cond t (own_of a from) (own_of a m)) (other_number m.0 to.0 (λ q. id_apart m to f q));
      }

  pub merged_released : IsReleased a b r
  merged_released = merge_released r refl merged_at
