-- What has a number in a list, after one was replaced or one came.
use Rattle.std.proofs.Common.{◌≡◌, ◌⊎◌, ◌==◌, ℕ, zero, suc, ◌+◌, ◌-◌, ◌≤◌, Bool, true, false, cond, List, [], ◌∷◌, ◌++◌, length, get_or, set, Option, Some, None, refl, sym, ap, inl, inr, subst, ◌∙◌, arith}
use Rattle.std.specs.Prelude.{IsSome, option_and_then, slice_get}
use Rattle.std.proofs.lemmas.Bool.Decides.{nat_tests}
use Rattle.std.proofs.lemmas.Option.{get_or_from_slice_get}
use Rattle.vm_model.specs.Machine.{numbered}
use Rattle.vm_model.proofs.Parts.Lists.{at_number, is_there}

one_deeper : {A : Type 0} (ys xs : List A) (y x v : A) (i j : ℕ) → (slice_get ys j ≡ slice_get xs j) ⊎ ((j ≡ i) × (slice_get ys j ≡ Some v))
    → (slice_get (y ∷ ys) (suc j) ≡ slice_get (x ∷ xs) (suc j)) ⊎ ((suc j ≡ suc i) × (slice_get (y ∷ ys) (suc j) ≡ Some v))
one_deeper ys xs y x v i j (inl e) = inl e
one_deeper ys xs y x v i j (inr e) = inr (ap suc e.0, e.1)

get_set : {A : Type 0} (xs : List A) (i j : ℕ) (v : A) → (slice_get (set xs i v) j ≡ slice_get xs j) ⊎ ((j ≡ i) × (slice_get (set xs i v) j ≡ Some v))
get_set [] i j v = inl refl
get_set (x ∷ xs) zero zero v = inr (refl, refl)
get_set (x ∷ xs) zero (suc j) v = inl refl
get_set (x ∷ xs) (suc i) zero v = inl refl
get_set (x ∷ xs) (suc i) (suc j) v = one_deeper (set xs i v) xs x x v i j (get_set xs i j v)

get_push : {A : Type 0} (xs : List A) (j : ℕ) (v : A) → (slice_get (xs ++ v ∷ []) j ≡ slice_get xs j) ⊎ ((j ≡ length xs) × (slice_get (xs ++ v ∷ []) j ≡ Some v))
get_push [] zero v = inr (refl, refl)
get_push [] (suc j) v = inl refl
get_push (x ∷ xs) zero v = inl refl
get_push (x ∷ xs) (suc j) v = one_deeper (xs ++ v ∷ []) xs x x v (length xs) j (get_push xs j v)

-- what stood there stands there after one came, and that one stands last
pub get_before : {A : Type 0} (xs : List A) (j : ℕ) (x v : A) → slice_get xs j ≡ Some x → slice_get (xs ++ v ∷ []) j ≡ Some x
get_before [] j x v e = absurd (cc e)
get_before (y ∷ ys) zero x v e = e
get_before (y ∷ ys) (suc j) x v e = get_before ys j x v e

pub get_last : {A : Type 0} (xs : List A) (v : A) → slice_get (xs ++ v ∷ []) (length xs) ≡ Some v
get_last [] v = refl
get_last (x ∷ xs) v = get_last xs v

-- what is told of each that has a number
abbrev pub Numbered : {A : Type 0} → (ℕ → A → Type 0) → List (Option A) → Type 0
Numbered {A} P xs = (n : ℕ) (x : A) → numbered xs n ≡ Some x → P n x

module _ {A : Type 0} (P : ℕ → A → Type 0) where
  same_or : (k : ℕ) (zeroth : Bool) (o p q : Option (Option A)) (x : A) → (k == 0) ≡ zeroth → (1 ≤ k → (o ≡ p) ⊎ (o ≡ q))
      → (cond zeroth None (option_and_then (λ y. y) p) ≡ Some x → P k x) → (1 ≤ k → option_and_then (λ y. y) q ≡ Some x → P k x) → cond zeroth None (option_and_then (λ y. y) o) ≡ Some x → P k x
  same_or k true o p q x z either old new e = absurd (cc e)
  same_or k false o p q x z either old new e = go (either some)
    where
      some : 1 ≤ k
      some = grind (arith, nat_tests)

      go : (o ≡ p) ⊎ (o ≡ q) → P k x
      go (inl s) = old (ap (option_and_then (λ y. y)) (sym s) ∙ e)
      go (inr s) = new some (ap (option_and_then (λ y. y)) (sym s) ∙ e)

  -- one is replaced
  pub numbered_replaced : (xs : List (Option A)) (n : ℕ) (v : Option A) → 1 ≤ n → ((x : A) → v ≡ Some x → P n x) → Numbered P xs → Numbered P (set xs (n - 1) v)
  numbered_replaced xs n v some new old k x e = go (get_set xs (n - 1) (k - 1) v)
    where
      go : (slice_get (set xs (n - 1) v) (k - 1) ≡ slice_get xs (k - 1)) ⊎ ((k - 1 ≡ n - 1) × (slice_get (set xs (n - 1) v) (k - 1) ≡ Some v)) → P k x
      go (inl s) = old k x (ap (λ (o : Option (Option A)). cond (k == 0) None (option_and_then (λ y. y) o)) (sym s) ∙ e)
      go (inr s) =
          same_or k (k == 0) (slice_get (set xs (n - 1) v) (k - 1)) (Some v) (Some v) x refl (λ _. inr s.1)
          (λ f. at_one (k == 0) refl f)
          (λ big f. subst (λ (j : ℕ). P j x) (let same = s.0 in omega (arith, same, big, some)) (new x f)) e
        where
          at_one : (zeroth : Bool) → (k == 0) ≡ zeroth → cond zeroth None v ≡ Some x → P k x
          at_one true z f = absurd (cc f)
          at_one false z f = let big : 1 ≤ k = grind (arith, nat_tests) in subst (λ (j : ℕ). P j x) (let same = s.0 in omega (arith, same, big, some)) (new x f)

  -- one more
  pub numbered_more : (xs : List (Option A)) (v : A) → P (length xs + 1) v → Numbered P xs → Numbered P (xs ++ Some v ∷ [])
  numbered_more xs v new old k x e = go (get_push xs (k - 1) (Some v))
    where
      go : (slice_get (xs ++ Some v ∷ []) (k - 1) ≡ slice_get xs (k - 1)) ⊎ ((k - 1 ≡ length xs) × (slice_get (xs ++ Some v ∷ []) (k - 1) ≡ Some (Some v))) → P k x
      go (inl s) = old k x (ap (λ (o : Option (Option A)). cond (k == 0) None (option_and_then (λ y. y) o)) (sym s) ∙ e)
      go (inr s) = here (k == 0) refl (ap (λ (o : Option (Option A)). cond (k == 0) None (option_and_then (λ y. y) o)) (sym s.1) ∙ e)
        where
          here : (zeroth : Bool) → (k == 0) ≡ zeroth → cond zeroth None (Some v) ≡ Some x → P k x
          here true z f = absurd (cc f)
          here false z f =
              let big : 1 ≤ k = grind (arith, nat_tests) in
              let is : v ≡ x = cc f in
              let at : length xs + 1 ≡ k = (let same = s.0 in omega (arith, same, big)) in
              subst (λ (j : ℕ). P j x) at (subst (P (length xs + 1)) is new)

-- what stands at a place has the number behind it
pub number_at : {A : Type 0} (xs : List (Option A)) (j : ℕ) (x : A) → slice_get xs j ≡ Some (Some x) → numbered xs (j + 1) ≡ Some x
number_at xs j x e =
    let other : (j + 1 == 0) ≡ false = grind (arith, nat_tests) in
    let place : j + 1 - 1 ≡ j = omega arith in
    ap (λ (c : Bool). cond c None (option_and_then (λ y. y) (slice_get xs (j + 1 - 1)))) other
    ∙ ap (λ (k : ℕ). option_and_then (λ y. y) (slice_get xs k)) place ∙ ap (option_and_then (λ y. y)) e

-- what is found at the place of a living actor is its space
pub found_here : {A : Type 0} (xs : List (Option A)) (n : ℕ) (d o : Option A) → IsSome (numbered xs n) → get_or xs (n - 1) d ≡ o → numbered xs n ≡ o
found_here xs n d o alive e =
    let found = is_there (numbered xs n) alive in
    found.1 ∙ sym (get_or_from_slice_get xs (n - 1) (Some found.0) d (at_number xs n found.0 found.1)) ∙ e
