-- Whether an access of an actor is parked.
use Rattle.std.proofs.Common.{◌≡◌, ℕ, Bool, true, false, nat_lt, List, [], ◌∷◌, length, Option, None, Some, refl, sym, ◌∙◌, arith, inl, inr}
use Rattle.std.specs.Prelude.{is_some, position}
use Rattle.std.specs.List.{list_any, position_or_len}
use Rattle.std.proofs.lemmas.Bool.{cases_lt, cond-true, lt-ltb}
use Rattle.std.proofs.lemmas.List.Folds.{list_any_at, list_any_none}
use Rattle.std.proofs.lemmas.List.Quantifiers.{position-Some}
use Rattle.std.proofs.lemmas.List.Sums.{fails_before_first}

none_passes : {X : Type 0} (test : X → Bool) (xs : List X) → position test xs ≡ None → list_any test xs ≡ false
none_passes test xs none = list_any_none test xs (λ k d l.
    let at = position_or_len test xs in
    elim (cases_lt at (length xs)) [
      | inl m ↦ let some : position test xs ≡ Some at = cond-true (nat_lt at (length xs)) (Some at) None (lt-ltb at (length xs) m) in absurd (cc)
      | inr m ↦ fails_before_first test xs k d (omega arith)
    ])

one_passes : {X : Type 0} (test : X → Bool) (xs : List X) (at : ℕ) (d : X) → position test xs ≡ Some at → list_any test xs ≡ true
one_passes test xs at d e = let p = position-Some test xs at d e in list_any_at test xs at d p.0 p.1

-- a place is found exactly where some element passes
pub found : {X : Type 0} (test : X → Bool) (xs : List X) (place : Option ℕ) → place ≡ position test xs → is_some place ≡ list_any test xs
found test xs None e = sym (none_passes test xs (sym e))
found test [] (Some at) e = absurd (cc)
found test (x ∷ xs) (Some at) e = sym (one_passes test (x ∷ xs) at x (sym e))

-- any passes a test that each passes
pub any_of : {X : Type 0} (xs : List X) → nat_lt 0 (length xs) ≡ list_any (λ x. true) xs
any_of [] = refl
any_of (x ∷ xs) = lt-ltb 0 (length (x ∷ xs)) (omega arith)

-- none is found where no element passes
pub none_found : {X : Type 0} (test : X → Bool) (xs : List X) → list_any test xs ≡ false → position test xs ≡ None
none_found test xs e = by (position test xs) (found test xs (position test xs) refl ∙ e)
  where
    by : (place : Option ℕ) → is_some place ≡ false → place ≡ None
    by None h = refl
    by (Some at) h = absurd (cc)
