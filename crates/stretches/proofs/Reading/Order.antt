-- The order of the stretches of a list.
use Rattle.std.proofs.Common.{◌≡◌, ℕ, zero, suc, ◌+◌, ◌<◌, ◌≤◌, List, [], ◌∷◌, length, get_or, inl, inr, ap, ◌∙◌, arith}
use Rattle.std.proofs.lemmas.Bool.{cases_order}
use Rattle.stretches.specs.declared.says.Says.{Ghosts}
use Rattle.stretches.specs.declared.stretch.Stretch.{Stretch}
use Rattle.stretches.specs.Places.{HasAt, IsFirstBehind}
use Rattle.stretches.specs.Stretch.{IsFit}
use Rattle.stretches.specs.Stretches.{AreInOrder}
use Rattle.stretches.proofs.Reading.Numbers.{any_default, high, low}

module _ {V : Type 0} (S : Ghosts V) where
  -- each stretch begins at the number or behind it
  pub rises : (from : ℕ) (rs : List (Stretch V)) → AreInOrder S from rs → (k : ℕ) (d : Stretch V) → k < length rs → from ≤ (get_or rs k d).first
  rises from [] order k d within = absurd (omega arith)
  rises from (r ∷ rs) order zero d within = order.0
  rises from (r ∷ rs) order (suc k) d within = omega (arith, order.0, rises (r.first + r.count) rs order.2 k d (omega arith))

  -- each stretch is fit
  pub fit_at : (from : ℕ) (rs : List (Stretch V)) → AreInOrder S from rs → (k : ℕ) (d : Stretch V) → k < length rs → IsFit S (get_or rs k d)
  fit_at from [] order k d within = absurd (omega arith)
  fit_at from (r ∷ rs) order zero d within = order.1
  fit_at from (r ∷ rs) order (suc k) d within = fit_at (r.first + r.count) rs order.2 k d (omega arith)

  -- a stretch ends before any later one begins
  pub apart : (from : ℕ) (rs : List (Stretch V)) → AreInOrder S from rs → (j k : ℕ) (d : Stretch V) → j < k → k < length rs → (get_or rs j d).first + (get_or rs j d).count ≤ (get_or rs k d).first
  apart from [] order j k d less within = absurd (omega arith)
  apart from (r ∷ rs) order j zero d less within = absurd (omega arith)
  apart from (r ∷ rs) order zero (suc k) d less within = rises (r.first + r.count) rs order.2 k d (omega arith)
  apart from (r ∷ rs) order (suc j) (suc k) d less within = apart (r.first + r.count) rs order.2 j k d (omega arith) (omega arith)

  -- the first numbers don't fall
  pub first_rises : (from : ℕ) (rs : List (Stretch V)) → AreInOrder S from rs → (j k : ℕ) (d : Stretch V) → j ≤ k → k < length rs → (get_or rs j d).first ≤ (get_or rs k d).first
  first_rises from [] order j k d le within = absurd (omega arith)
  first_rises from (r ∷ rs) order zero zero d le within = omega arith
  first_rises from (r ∷ rs) order (suc j) zero d le within = absurd (omega arith)
  first_rises from (r ∷ rs) order zero (suc k) d le within = omega (arith, rises (r.first + r.count) rs order.2 k d (omega arith))
  first_rises from (r ∷ rs) order (suc j) (suc k) d le within = first_rises (r.first + r.count) rs order.2 j k d (omega arith) (omega arith)

  -- two stretches that have a number are one
  pub one_place : (rs : List (Stretch V)) → AreInOrder S 0 rs → (n i j : ℕ) → HasAt rs n i → HasAt rs n j → (d : Stretch V) → i ≡ j
  one_place rs order n i j has also d = elim (cases_order i j) [
    | inl same ↦ same
    | inr other ↦ elim other [
      | inl less ↦ absurd (omega (arith, apart 0 rs order i j d less also.within, high (get_or rs i d) n (has.has d), low (get_or rs j d) n (also.has d)))
      | inr more ↦ absurd (omega (arith, apart 0 rs order j i d more has.within, high (get_or rs j d) n (also.has d), low (get_or rs i d) n (has.has d)))
    ]
  ]

  -- the stretches behind the one that has a number are the first behind it
  pub behind_has : (rs : List (Stretch V)) → AreInOrder S 0 rs → (n k : ℕ) → HasAt rs n k → IsFirstBehind rs n (k + 1)
  behind_has rs order n k has = record {
    within = omega (arith, has.within);
    before = λ j d less. omega (arith, first_rises 0 rs order j k d (omega arith) has.within, low (get_or rs k d) n (has.has d));
    behind = λ j d le less. omega (arith, apart 0 rs order k j d (omega arith) less, high (get_or rs k d) n (has.has d));
  }

  -- where one begins at the number or before it, and the next one behind it, the others are behind
  -- it
  pub behind_between : (rs : List (Stretch V)) → AreInOrder S 0 rs → (n k : ℕ) (r q : Stretch V) → k + 1 < length rs
      → get_or rs k r ≡ r → get_or rs (k + 1) q ≡ q → r.first ≤ n → n < q.first → IsFirstBehind rs n (k + 1)
  behind_between rs order n k r q within is next low_end high_end = record {
    within = omega (arith, within);
    before = λ j d less. omega (arith, first_rises 0 rs order j k d (omega arith) (omega (arith, within)), ap (λ (x : Stretch V). x.first) (any_default rs k d r (omega (arith, within)) ∙ is), low_end);
    behind = λ j d le less. omega (arith, first_rises 0 rs order (k + 1) j d le less, ap (λ (x : Stretch V). x.first) (any_default rs (k + 1) d q within ∙ next), high_end);
  }
