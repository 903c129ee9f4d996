-- Counts of a list under a write, and the one place that passes a test.
use Rattle.std.proofs.Common.{◌≡◌, ◌≢◌, ℕ, zero, suc, ◌+◌, ◌*◌, ◌<◌, ◌≤◌, ◌==◌, Bool, true, false, not, cond, List, [], ◌∷◌, length, get_or, set, replicate, Some, None, refl, ap, sym, ◌∙◌, arith, inl, inr}
use Rattle.std.specs.Option.{IsSome}
use Rattle.std.specs.Prelude.{position}
use Rattle.std.specs.List.{count_by, position_or_len}
use Rattle.std.proofs.lemmas.Bool.{cases_lt, cond_below}
use Rattle.std.proofs.lemmas.Bool.Decides.{nat_tests}
use Rattle.std.proofs.lemmas.List.{length-replicate, get_or_past, get_or-replicate, set-set, set-get_or}
use Rattle.std.proofs.lemmas.List.Folds.{sum_by-replicate}
use Rattle.std.proofs.lemmas.List.Sums.{sum_by-set, sum_by-cons, get_or-le-sum_by, count_by-le-length}

pub same_number : (n : ℕ) → (n == n) ≡ true
same_number n = grind (arith, nat_tests)

pub other_number : (m n : ℕ) → m ≢ n → (m == n) ≡ false
other_number m n h = grind (arith, nat_tests)

-- what one element adds to a count
abbrev pub bit : Bool → ℕ
bit b = cond b 1 0

pub bit_true : (t : Bool) → t ≡ true → bit t ≡ 1
bit_true t e = ap bit e

pub bit_false : (t : Bool) → t ≡ false → bit t ≡ 0
bit_false t e = ap bit e

pub bit-le : (t : Bool) → bit t ≤ 1
bit-le true = omega arith
bit-le false = omega arith

pub bit_from : (t : Bool) → 1 ≤ bit t → t ≡ true
bit_from true h = refl
bit_from false h = absurd (omega arith)

pub bit_mono : (a b : Bool) → (a ≡ true → b ≡ true) → bit a ≤ bit b
bit_mono true b h = omega (arith, bit_true b (h refl))
bit_mono false b h = omega arith

-- one write moves a count by what the old and the new element add
pub count-set : {X : Type 0} (p : X → Bool) (xs : List X) (i : ℕ) (y d : X) → i < length xs → count_by p (set xs i y) + bit (p (get_or xs i d)) ≡ count_by p xs + bit (p y)
count-set p xs i y d h = sum_by-set (λ x. bit (p x)) xs i y d h

pub count_cons : {X : Type 0} (p : X → Bool) (x : X) (xs : List X) → count_by p (x ∷ xs) ≡ bit (p x) + count_by p xs
count_cons p x xs = sum_by-cons (λ x. bit (p x)) x xs

pub count_some : {X : Type 0} (p : X → Bool) (xs : List X) (i : ℕ) (d : X) → i < length xs → p (get_or xs i d) ≡ true → 1 ≤ count_by p xs
count_some p xs i d h e =
    let b : bit (p (get_or xs i d)) ≤ count_by p xs = get_or-le-sum_by (λ x. bit (p x)) xs i d h in
    omega (arith, bit_true (p (get_or xs i d)) e)

pub count_not_all : {X : Type 0} (p : X → Bool) (xs : List X) (i : ℕ) (d : X) → i < length xs → p (get_or xs i d) ≡ false → count_by p xs < length xs
count_not_all p [] i d h e = absurd (omega arith)
count_not_all p (x ∷ xs) zero d h e = omega (arith, count_cons p x xs, bit_false (p x) e, count_by-le-length p xs)
count_not_all p (x ∷ xs) (suc i) d h e =
    let rest : count_by p xs < length xs = count_not_all p xs i d (omega arith) e in
    omega (arith, count_cons p x xs, bit-le (p x))

pub count-replicate_none : {X : Type 0} (p : X → Bool) (n : ℕ) (x : X) → p x ≡ false → count_by p (replicate n x) ≡ 0
count-replicate_none p n x e = sum_by-replicate (λ y. bit (p y)) n x ∙ ap (λ (k : ℕ). n * k) (bit_false (p x) e) ∙ omega arith

-- where each true place of one list is true in another, there are no more
pub count_le : (xs ys : List Bool) → length xs ≡ length ys → ((i : ℕ) → get_or xs i false ≡ true → get_or ys i false ≡ true) → count_by (λ h. h) xs ≤ count_by (λ h. h) ys
count_le [] ys e h = omega arith
count_le (x ∷ xs) [] e h = absurd (omega arith)
count_le (x ∷ xs) (y ∷ ys) e h =
    omega (arith, count_cons (λ h. h) x xs, count_cons (λ h. h) y ys, bit_mono x y (h 0), count_le xs ys (omega arith) (λ i. h (suc i)))

first : {X : Type 0} (p : X → Bool) (x : X) (xs : List X) (t : Bool) → p x ≡ t → position_or_len p (x ∷ xs) ≡ cond t 0 (1 + position_or_len p xs)
first p x xs true e = ap (λ (t : Bool). cond (not t) (1 + position_or_len p xs) 0) e
first p x xs false e = ap (λ (t : Bool). cond (not t) (1 + position_or_len p xs) 0) e

only_step : {X : Type 0} (p : X → Bool) (x : X) (xs : List X) (i : ℕ) (d : X) (t : Bool) → p x ≡ t → count_by p (x ∷ xs) ≡ 1 → i < length xs → p (get_or xs i d) ≡ true → t ≡ false
only_step p x xs i d false e once h passes = refl
only_step p x xs i d true e once h passes = absurd (omega (arith, count_cons p x xs, bit_true (p x) e, count_some p xs i d h passes))

-- where one element passes, the first that does is that one
pub only_place : {X : Type 0} (p : X → Bool) (xs : List X) (i : ℕ) (d : X) → count_by p xs ≡ 1 → i < length xs → p (get_or xs i d) ≡ true → position_or_len p xs ≡ i
only_place p [] i d once h passes = absurd (omega arith)
only_place p (x ∷ xs) zero d once h passes = first p x xs true passes
only_place p (x ∷ xs) (suc i) d once h passes =
    let within : i < length xs = omega arith in
    let fails : p x ≡ false = only_step p x xs i d (p x) refl once within passes in
    let rest : position_or_len p xs ≡ i = only_place p xs i d (omega (arith, count_cons p x xs, bit_false (p x) fails)) within passes in
    first p x xs false fails ∙ omega arith

fails_by : {X : Type 0} (p : X → Bool) (xs : List X) (i : ℕ) (d : X) → i < length xs → count_by p xs ≡ 0 → (t : Bool) → p (get_or xs i d) ≡ t → p (get_or xs i d) ≡ false
fails_by p xs i d h none true e = absurd (omega (arith, count_some p xs i d h e))
fails_by p xs i d h none false e = e

pub none_passes : {X : Type 0} (p : X → Bool) (xs : List X) (i : ℕ) (d : X) → i < length xs → count_by p xs ≡ 0 → p (get_or xs i d) ≡ false
none_passes p xs i d h none = fails_by p xs i d h none (p (get_or xs i d)) refl

-- a list of tests that aren't all true has one that is false
pub some_false : (xs : List Bool) → count_by (λ h. h) xs < length xs → (i : ℕ) × (i < length xs) × (get_or xs i false ≡ false)
some_false [] h = absurd (omega arith)
some_false (false ∷ xs) h = (0, omega arith, refl)
some_false (true ∷ xs) h =
    let rest : (i : ℕ) × (i < length xs) × (get_or xs i false ≡ false) = some_false xs (omega (arith, count_cons (λ h. h) true xs)) in
    (suc rest.0, omega (arith, rest.1), rest.2)

some_place_step : {X : Type 0} (p : X → Bool) (x : X) (xs : List X) (t : Bool) → p x ≡ t → 1 ≤ count_by p (x ∷ xs) → (1 ≤ count_by p xs → position_or_len p xs < length xs) → position_or_len p (x ∷ xs) < length (x ∷ xs)
some_place_step p x xs true e h more = omega (arith, first p x xs true e)
some_place_step p x xs false e h more =
    let rest : position_or_len p xs < length xs = more (omega (arith, count_cons p x xs, bit_false (p x) e)) in
    omega (arith, first p x xs false e)

-- where some pass, the first is there
pub some_place : {X : Type 0} (p : X → Bool) (xs : List X) → 1 ≤ count_by p xs → position_or_len p xs < length xs
some_place p [] h = absurd (omega arith)
some_place p (x ∷ xs) h = some_place_step p x xs (p x) refl h (some_place p xs)

pub some_position : {X : Type 0} (p : X → Bool) (xs : List X) → 1 ≤ count_by p xs → IsSome (position p xs)
some_position p xs h = let r = some_place p xs h in grind (arith, nat_tests)

none_step : {X : Type 0} (p : X → Bool) (xs : List X) (t : Bool) (x : X) → p x ≡ t → length (x ∷ xs) ≤ position_or_len p (x ∷ xs) → (length xs ≤ position_or_len p xs) × (t ≡ false)
none_step p xs true x e h =
    let z : position_or_len p (x ∷ xs) ≡ 0 = first p x xs true e in absurd (omega arith)
none_step p xs false x e h =
    let z : position_or_len p (x ∷ xs) ≡ 1 + position_or_len p xs = first p x xs false e in (omega arith, refl)

-- where the first that passes is past the end, none does
pub count_none : {X : Type 0} (p : X → Bool) (xs : List X) → length xs ≤ position_or_len p xs → count_by p xs ≡ 0
count_none p [] h = refl
count_none p (x ∷ xs) h =
    let r : (length xs ≤ position_or_len p xs) × (p x ≡ false) = none_step p xs (p x) x refl h in
    omega (arith, count_cons p x xs, bit_false (p x) r.1, count_none p xs r.0)

pub position_none : {X : Type 0} (p : X → Bool) (xs : List X) → position p xs ≡ None → count_by p xs ≡ 0
position_none p xs e = elim (cases_lt (position_or_len p xs) (length xs)) [
  | inr h ↦ count_none p xs h
  | inl h ↦ (let s : position p xs ≡ Some (position_or_len p xs) = sym (cond_below (position_or_len p xs) (length xs) (Some (position_or_len p xs)) None h) in absurd (cc))
]

pub same_all : {X : Type 0} (n : ℕ) (a : X) (i : ℕ) → get_or (replicate n a) i a ≡ a
same_all n a i = elim (cases_lt i n) [
  | inl b ↦ get_or-replicate n i a a b
  | inr b ↦ get_or_past (replicate n a) i a (omega (arith, length-replicate n a))
]

pub true_below : (xs : List Bool) (i : ℕ) → get_or xs i false ≡ true → i < length xs
true_below xs i h = elim (cases_lt i (length xs)) [
  | inl b ↦ b
  | inr b ↦ (let e : get_or xs i false ≡ false = get_or_past xs i false b in absurd (cc))
]

-- taken and given back
pub back : (xs : List Bool) (i : ℕ) → get_or xs i false ≡ false → set (set xs i true) i false ≡ xs
back xs i h = set-set xs i true false ∙ ap (set xs i) (sym h) ∙ set-get_or xs i false
