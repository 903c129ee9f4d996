-- A stretch that came.
use Rattle.std.proofs.Common.{◌≡◌, ℕ, zero, suc, ◌+◌, ◌≤◌, true, false, cond, List, [], ◌∷◌, Some, refl, sym, ◌∙◌, inl, inr, arith}
use Rattle.std.specs.List.{insert}
use Rattle.std.proofs.lemmas.Bool.{cases_Bool, cases_lt, false≢true}
use Rattle.stretches.specs.declared.says.Says.{Ghosts}
use Rattle.stretches.specs.declared.stretch.Stretch.{Stretch}
use Rattle.stretches.specs.Changes.{IsVacantFor}
use Rattle.stretches.specs.Places.{IsFirstBehind}
use Rattle.stretches.specs.Stretch.{IsFit, is_in, value_at}
use Rattle.stretches.specs.Stretches.{AreInOrder, number_count, said}
use Rattle.stretches.proofs.Reading.Numbers.{chosen, none≢some, passed, within}
use Rattle.stretches.proofs.Reading.Sayings.{here, same_rest, skip}

module _ {V : Type 0} where
  first_behind_rest : (x : Stretch V) (rs : List (Stretch V)) (n at : ℕ) → IsFirstBehind (x ∷ rs) n (suc at) → IsFirstBehind rs n at
  first_behind_rest x rs n at place = record {
    within = omega (arith, place.within);
    before = λ k d less. place.before (suc k) d (omega arith);
    behind = λ k d le less. place.behind (suc k) d (omega arith) (omega arith);
  }

  pub count_insert : (rs : List (Stretch V)) (at : ℕ) (r : Stretch V) → number_count (insert rs at r) ≡ number_count rs + r.count
  count_insert rs zero r = omega arith
  count_insert [] (suc at) r = omega arith
  count_insert (x ∷ rs) (suc at) r = omega (arith, count_insert rs at r)

module _ {V : Type 0} (S : Ghosts V) where
  -- no number of a stretch is in the first of the stretches, nor in the others
  vacant_first : (x : Stretch V) (rs : List (Stretch V)) (r : Stretch V) → IsVacantFor S (x ∷ rs) r → (n : ℕ) → is_in r n ≡ true → is_in x n ≡ false
  vacant_first x rs r vacant n h = elim (cases_Bool (is_in x n)) [
    | inl has ↦ absurd (none≢some _ (sym (vacant n h) ∙ here S x rs n has))
    | inr out ↦ out
  ]

  vacant_rest : (x : Stretch V) (rs : List (Stretch V)) (r : Stretch V) → IsVacantFor S (x ∷ rs) r → IsVacantFor S rs r
  vacant_rest x rs r vacant n h = sym (skip S x rs n (vacant_first x rs r vacant n h)) ∙ vacant n h

  pub said_insert : (rs : List (Stretch V)) (at : ℕ) (r : Stretch V) → IsVacantFor S rs r → (n : ℕ) → said S (insert rs at r) n ≡ cond (is_in r n) (Some (value_at S r n)) (said S rs n)
  said_insert rs zero r vacant n = refl
  said_insert [] (suc at) r vacant n = refl
  said_insert (x ∷ rs) (suc at) r vacant n =
      let rest = said_insert rs at r (vacant_rest x rs r vacant) n in
      elim (cases_Bool (is_in r n)) [
        | inl h ↦ skip S x (insert rs at r) n (vacant_first x rs r vacant n h) ∙ rest ∙ chosen (is_in r n) h _ _ ∙ sym (chosen (is_in r n) h _ _)
        | inr h ↦ same_rest S x rs (insert rs at r) n (rest ∙ passed (is_in r n) h _ _) ∙ sym (passed (is_in r n) h _ _)
      ]

  -- a stretch that isn't in the way ends before the next one begins
  later : (r : Stretch V) (rs : List (Stretch V)) (from : ℕ) → AreInOrder S from rs → IsFirstBehind rs r.first 0 → IsVacantFor S rs r → AreInOrder S (r.first + r.count) rs
  later r [] from order place vacant = tt
  later r (x ∷ rs) from order place vacant = elim (cases_lt x.first (r.first + r.count)) [
    | inl less ↦
        let in_r = within r x.first (omega (arith, place.behind 0 x (omega arith) (omega arith))) less in
        let in_x = within x x.first (omega arith) (omega (arith, order.1.some)) in
        absurd (false≢true (sym (vacant_first x rs r vacant x.first in_r) ∙ in_x))
    | inr le ↦ (le, order.1, order.2)
  ]

  -- and begins where the one before it ends, or behind that
  earlier : (r x : Stretch V) (rs : List (Stretch V)) (at : ℕ) → IsFit S r → IsFirstBehind (x ∷ rs) r.first (suc at) → IsVacantFor S (x ∷ rs) r → x.first + x.count ≤ r.first
  earlier r x rs at fit place vacant = elim (cases_lt r.first (x.first + x.count)) [
    | inl less ↦
        let in_r = within r r.first (omega arith) (omega (arith, fit.some)) in
        let in_x = within x r.first (place.before 0 x (omega arith)) less in
        absurd (false≢true (sym (vacant_first x rs r vacant r.first in_r) ∙ in_x))
    | inr le ↦ le
  ]

  pub order_insert : (from : ℕ) (rs : List (Stretch V)) (at : ℕ) (r : Stretch V) → AreInOrder S from rs → from ≤ r.first → IsFit S r → IsFirstBehind rs r.first at → IsVacantFor S rs r → AreInOrder S from (insert rs at r)
  order_insert from rs zero r order le fit place vacant = (le, fit, later r rs from order place vacant)
  order_insert from [] (suc at) r order le fit place vacant = absurd (omega (arith, place.within))
  order_insert from (x ∷ rs) (suc at) r order le fit place vacant =
      (order.0, order.1, order_insert (x.first + x.count) rs at r order.2 (earlier r x rs at fit place vacant) fit (first_behind_rest x rs r.first at place) (vacant_rest x rs r vacant))
