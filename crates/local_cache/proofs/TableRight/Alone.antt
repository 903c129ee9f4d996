-- A node that stands alone changes, comes or goes: the tables stay right.
use Rattle.std.proofs.Common.{◌≡◌, ◌≢◌, ℕ, ◌+◌, ◌<◌, Option, Some, None, refl, sym, ap, subst, ◌∙◌, inl, inr, arith}
use Rattle.std.specs.Prelude.{option_and_then, is_some}
use Rattle.std.proofs.lemmas.Bool.{cases_eq, false≢true}
use Rattle.std.proofs.lemmas.Option.{none-some, same_Some}
use Rattle.std.specs.Ordering.{nat_cmp}
use Rattle.std.specs.FinMap.{FinMap}
use Rattle.std.specs.FinMap as map
use Rattle.mixed_map.proofs.Maps.{insert_other, insert_same, remove_other, remove_same, same}
use Rattle.local_cache.specs.Arena.{Cell}
use Rattle.local_cache.specs.NodeCells.{Cells}
use Rattle.local_cache.specs.NodeKeys.{key_at, working_number}
use Rattle.local_cache.specs.LinkTable.{AreThinKept, HasFreeNumber, IsTableRight, Table}
use Rattle.local_cache.specs.Thin.{thin_number}
use Rattle.local_cache.specs.ThinNodes.{Thin, changed_to}
use Rattle.local_cache.proofs.Singles.{len_insert_new, len_insert_old, len_remove_old}
use Rattle.local_cache.proofs.Thinness.{one_kept}
use Rattle.local_cache.proofs.TableRight.Numbers.{apart_less, apart_one, working_same}

-- The tables

pub kept_as : (cells new : Cells) (slots places : FinMap nat_cmp ℕ) (thin : Thin) → new ≡ cells → places ≡ slots → AreThinKept cells slots thin → AreThinKept new places thin
kept_as cells new slots places thin e f kept =
    let P : FinMap nat_cmp ℕ → Type 0 = λ p. AreThinKept new p thin in
    let Q : Cells → Type 0 = λ c. AreThinKept c slots thin in
    subst P (sym f) (subst Q (sym e) kept)

-- A node that stands alone changes
module _ (t : Table) (thin : Thin) (n slot : ℕ) (d : Cell) (right : IsTableRight t thin) (at : map.get t.slots n ≡ Some slot)
    (free : HasFreeNumber (map.remove t.cells n) d) where
  pub table_changed : IsTableRight (record t { cells = map.insert t.cells n d }) (record thin { alone = changed_to thin.alone slot (thin_number d) })
  table_changed = record {
    kept = one_kept t.cells (map.insert t.cells n d) t.slots t.slots thin n slot (thin_number d) right.kept
        (λ q other. insert_other t.cells n d q other) (λ q other. refl) (λ q e. right.once q n slot e at)
        (λ j e. sym (same_Some _ _ (sym at ∙ e))) (λ j e. sym (same_Some _ _ (sym at ∙ e)))
        (λ k none h. none-some slot (sym none ∙ at))
        (ap (option_and_then thin_number) (insert_same t.cells n d n refl)) (λ k e. at);
    apart = apart_one t.cells (map.insert t.cells n d) n d right.apart free (insert_same t.cells n d n refl) (λ q other. insert_other t.cells n d q other);
    once = right.once;
    within = right.within;
    held = λ q s e. elim (cases_eq q n) [
      | inl here ↦ ap is_some (insert_same t.cells n d q here)
      | inr other ↦ ap is_some (insert_other t.cells n d q other) ∙ right.held q s e
    ];
    counted = right.counted ∙ sym (len_insert_old t.cells n d (right.held n slot at));
    few = right.few;
    room = right.room;
  }

-- A node comes, and stands alone
module _ (t : Table) (thin : Thin) (n slot : ℕ) (d : Cell) (right : IsTableRight t thin) (vacant : map.get t.cells n ≡ None)
    (free : HasFreeNumber t.cells d) (room : t.count < t.room) (fresh : (q : ℕ) → map.get t.slots q ≢ Some slot) (short : slot < t.room) where
  no_slot : (o : Option ℕ) → map.get t.slots n ≡ o → map.get t.slots n ≡ None
  no_slot None e = e
  no_slot (Some s) e = absurd (false≢true (sym (ap is_some vacant) ∙ right.held n s e))

  removed_none : map.remove t.cells n ≡ t.cells
  removed_none = same _ _ (λ q. elim (cases_eq q n) [
    | inl here ↦ remove_same t.cells n q here ∙ sym (ap (map.get t.cells) here ∙ vacant)
    | inr other ↦ remove_other t.cells n q other
  ])

  abbrev places : FinMap nat_cmp ℕ
  places = map.insert t.slots n slot

  placed : (q s : ℕ) → q ≢ n → map.get places q ≡ Some s → map.get t.slots q ≡ Some s
  placed q s other e = sym (insert_other t.slots n slot q other) ∙ e

  here_slot : (q s : ℕ) → q ≡ n → map.get places q ≡ Some s → s ≡ slot
  here_slot q s at e = sym (same_Some _ _ (sym (insert_same t.slots n slot q at) ∙ e))

  pub table_come : IsTableRight
      (record t { cells = map.insert t.cells n d; slots = places; count = t.count + 1 })
      (record thin { alone = changed_to thin.alone slot (thin_number d) })
  table_come = record {
    kept = one_kept t.cells (map.insert t.cells n d) t.slots places thin n slot (thin_number d) right.kept
        (λ q other. insert_other t.cells n d q other) (λ q other. insert_other t.slots n slot q other)
        (λ q e. absurd (fresh q e))
        (λ j e. absurd (none-some j (sym (no_slot (map.get t.slots n) refl) ∙ e)))
        (λ j e. here_slot n j refl e)
        (λ k none h. none-some k (sym (ap (option_and_then thin_number) vacant) ∙ h))
        (ap (option_and_then thin_number) (insert_same t.cells n d n refl))
        (λ k e. insert_same t.slots n slot n refl);
    apart = apart_one t.cells (map.insert t.cells n d) n d right.apart
        (let P : Cells → Type 0 = λ c. HasFreeNumber c d in subst P (sym removed_none) free)
        (insert_same t.cells n d n refl) (λ q other. insert_other t.cells n d q other);
    once = λ a b s e f. elim (cases_eq a n) [
      | inl here ↦ elim (cases_eq b n) [
        | inl also ↦ here ∙ sym also
        | inr other ↦ absurd (fresh b (placed b s other f ∙ ap Some (here_slot a s here e)))
      ]
      | inr far ↦ elim (cases_eq b n) [
        | inl also ↦ absurd (fresh a (placed a s far e ∙ ap Some (here_slot b s also f)))
        | inr other ↦ right.once a b s (placed a s far e) (placed b s other f)
      ]
    ];
    within = λ q s e. elim (cases_eq q n) [
      | inl here ↦ omega (arith, here_slot q s here e, short)
      | inr other ↦ right.within q s (placed q s other e)
    ];
    held = λ q s e. elim (cases_eq q n) [
      | inl here ↦ ap is_some (insert_same t.cells n d q here)
      | inr other ↦ ap is_some (insert_other t.cells n d q other) ∙ right.held q s (placed q s other e)
    ];
    counted = omega (arith, right.counted, len_insert_new t.cells n d vacant);
    few = omega (arith, room);
    room = right.room;
  }

-- A node that stands alone goes
module _ (t : Table) (thin : Thin) (n slot count : ℕ) (right : IsTableRight t thin) (at : map.get t.slots n ≡ Some slot)
    (less : count + 1 ≡ t.count) where
  left_slot : (q s : ℕ) → map.get (map.remove t.slots n) q ≡ Some s → (q ≢ n) × (map.get t.slots q ≡ Some s)
  left_slot q s e = elim (cases_eq q n) [
    | inl here ↦ absurd (none-some s (sym (remove_same t.slots n q here) ∙ e))
    | inr other ↦ (other, sym (remove_other t.slots n q other) ∙ e)
  ]

  left_key : (q k : ℕ) → key_at working_number (map.remove t.cells n) q ≡ Some k → key_at working_number t.cells q ≡ Some k
  left_key q k e = elim (cases_eq q n) [
    | inl here ↦ absurd (none-some k (sym (ap (option_and_then working_number) (remove_same t.cells n q here)) ∙ e))
    | inr other ↦ sym (working_same t.cells (map.remove t.cells n) q (remove_other t.cells n q other)) ∙ e
  ]

  pub table_gone : IsTableRight
      (record t { cells = map.remove t.cells n; slots = map.remove t.slots n; count = count })
      (record thin { alone = changed_to thin.alone slot None })
  table_gone = record {
    kept = one_kept t.cells (map.remove t.cells n) t.slots (map.remove t.slots n) thin n slot None right.kept
        (λ q other. remove_other t.cells n q other) (λ q other. remove_other t.slots n q other)
        (λ q e. right.once q n slot e at)
        (λ j e. sym (same_Some _ _ (sym at ∙ e)))
        (λ j e. absurd (none-some j (sym (remove_same t.slots n n refl) ∙ e)))
        (λ k none h. none-some slot (sym none ∙ at))
        (ap (option_and_then thin_number) (remove_same t.cells n n refl))
        (λ k e. absurd (none-some k e));
    apart = apart_less t.cells (map.remove t.cells n) right.apart left_key;
    once = λ a b s e f. right.once a b s (left_slot a s e).1 (left_slot b s f).1;
    within = λ q s e. right.within q s (left_slot q s e).1;
    held = λ q s e. ap is_some (remove_other t.cells n q (left_slot q s e).0) ∙ right.held q s (left_slot q s e).1;
    counted = omega (arith, less, right.counted, len_remove_old t.cells n (right.held n slot at));
    few = omega (arith, right.few, less);
    room = right.room;
  }

-- What stands at a slot

no_number : (o : Option ℕ) → ((k : ℕ) → o ≡ Some k → ⊥) → o ≡ None
no_number None h = refl
no_number (Some k) h = absurd (h k refl)

-- a slot that no node has, has no number
pub slot_free : (t : Table) (thin : Thin) (slot : ℕ) → IsTableRight t thin → ((q : ℕ) → map.get t.slots q ≢ Some slot) → map.get thin.alone slot ≡ None
slot_free t thin slot right fresh = no_number (map.get thin.alone slot) (λ k e. (let w = (right.kept.alone slot k).0 e in fresh w.0 w.1))

-- that of a node has the node's number, if it is thin
pub slot_number : (t : Table) (thin : Thin) (n slot : ℕ) (d : Cell) → IsTableRight t thin → map.get t.slots n ≡ Some slot → map.get t.cells n ≡ Some d → map.get thin.alone slot ≡ thin_number d
slot_number t thin n slot d right at is = by_number (thin_number d) refl where
  by_number : (o : Option ℕ) → thin_number d ≡ o → map.get thin.alone slot ≡ o
  by_number (Some k) e = (right.kept.alone slot k).1 (n, at, ap (option_and_then thin_number) is ∙ e)
  by_number None e = no_number (map.get thin.alone slot) (λ k h.
      (let w = (right.kept.alone slot k).0 h in
      let here = right.once w.0 n slot w.1 at in
      none-some k (sym (ap (option_and_then thin_number) (ap (map.get t.cells) here ∙ is) ∙ e) ∙ w.2)))

pub right_as : (t u : Table) (a b : Thin) → u ≡ t → b ≡ a → IsTableRight t a → IsTableRight u b
right_as t u a b e f right =
    let P : Thin → Type 0 = λ x. IsTableRight u x in
    let Q : Table → Type 0 = λ x. IsTableRight x a in
    subst P (sym f) (subst Q (sym e) right)
