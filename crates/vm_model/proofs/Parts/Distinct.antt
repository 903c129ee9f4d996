-- Distinct places at which there is something are no more than there are of these.
use Rattle.std.proofs.Common.{◌≡◌, ◌≢◌, ◌⊎◌, ◌+◌, ◌≤◌, ℕ, zero, suc, cond, List, [], ◌∷◌, length, Option, None, Some, refl, ap, inl, inr, arith}
use Rattle.std.specs.Prelude.{IsSome, count_by, is_some, option_and_then, slice_get}
use Rattle.std.specs.List.{AllByRecursion}
use Rattle.std.proofs.lemmas.List.Sums.{sum_by-cons}
use Rattle.vm_model.proofs.Parts.Pairs.{Pairs}

-- these places are apart
abbrev pub AreDistinct : List ℕ → Type 0
AreDistinct ks = Pairs (λ m n. m ≢ n) ks

-- there is something at a place
abbrev pub IsThere : {A : Type 0} → List (Option A) → ℕ → Type 0
IsThere xs k = IsSome (option_and_then (λ o. o) (slice_get xs k))

-- the places behind the first, counted from there
abbrev pub lower : List ℕ → List ℕ
lower [] = []
lower (zero ∷ ks) = lower ks
lower (suc k ∷ ks) = k ∷ lower ks

lower_apart : (k : ℕ) (ks : List ℕ) → AllByRecursion (λ m. suc k ≢ m) ks → AllByRecursion (λ m. k ≢ m) (lower ks)
lower_apart k [] h = tt
lower_apart k (zero ∷ ks) h = lower_apart k ks h.1
lower_apart k (suc m ∷ ks) h = ((λ e. h.0 (ap suc e)), lower_apart k ks h.1)

lower_distinct : (ks : List ℕ) → AreDistinct ks → AreDistinct (lower ks)
lower_distinct [] h = tt
lower_distinct (zero ∷ ks) h = lower_distinct ks h.1
lower_distinct (suc k ∷ ks) h = (lower_apart k ks h.0, lower_distinct ks h.1)

lower_there : {A : Type 0} (x : Option A) (xs : List (Option A)) (ks : List ℕ) → AllByRecursion (IsThere (x ∷ xs)) ks → AllByRecursion (IsThere xs) (lower ks)
lower_there x xs [] h = tt
lower_there x xs (zero ∷ ks) h = lower_there x xs ks h.1
lower_there x xs (suc k ∷ ks) h = (h.0, lower_there x xs ks h.1)

none_first : (ks : List ℕ) → AllByRecursion (λ m. zero ≢ m) ks → length ks ≡ length (lower ks)
none_first [] h = refl
none_first (zero ∷ ks) h = absurd (h.0 refl)
none_first (suc k ∷ ks) h = ap suc (none_first ks h.1)

-- one at most is the first
first_once : (P : ℕ → Type 0) (ks : List ℕ) → AreDistinct ks → AllByRecursion P ks → (length ks ≡ length (lower ks)) ⊎ ((length ks ≡ suc (length (lower ks))) × P zero)
first_once P [] h p = inl refl
first_once P (zero ∷ ks) h p = inr (ap suc (none_first ks h.0), p.0)
first_once P (suc k ∷ ks) h p = elim (first_once P ks h.1 p.1) [
  | inl e ↦ inl (ap suc e)
  | inr q ↦ inr (ap suc q.0, q.1)
]

pub distinct_few : {A : Type 0} (xs : List (Option A)) (ks : List ℕ) → AreDistinct ks → AllByRecursion (IsThere xs) ks → length ks ≤ count_by is_some xs
distinct_few [] [] h p = omega arith
distinct_few [] (k ∷ ks) h p = absurd (cc p.0)
distinct_few {A} (None ∷ xs) ks h p =
    let rest = distinct_few xs (lower ks) (lower_distinct ks h) (lower_there None xs ks p) in
    let count : count_by is_some (let o : Option A = None in o ∷ xs) ≡ count_by is_some xs = refl in
    elim (first_once (IsThere (None ∷ xs)) ks h p) [
      | inl e ↦ omega (arith, e, rest, count)
      | inr q ↦ absurd (cc q.1)
    ]
distinct_few {A} (Some x ∷ xs) ks h p =
    let rest = distinct_few xs (lower ks) (lower_distinct ks h) (lower_there (Some x) xs ks p) in
    let count : count_by is_some (Some x ∷ xs) ≡ 1 + count_by is_some xs = sum_by-cons (λ (o : Option A). cond (is_some o) 1 0) (Some x) xs in
    elim (first_once (IsThere (Some x ∷ xs)) ks h p) [
      | inl e ↦ omega (arith, e, rest, count)
      | inr q ↦ let more = q.0 in omega (arith, more, rest, count)
    ]
