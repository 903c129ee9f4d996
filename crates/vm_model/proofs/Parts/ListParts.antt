-- What stands at a place of a list of which a part was replaced, or to which something was added.
use Rattle.std.proofs.Common.{◌≡◌, ◌≢◌, ◌==◌, ◌⊎◌, ℕ, zero, suc, ◌+◌, ◌-◌, ◌<◌, ◌≤◌, Bool, true, false, cond, List, [], ◌∷◌, ◌++◌, length, set, take, drop, replicate, Option, Some, None, refl, sym, ap, ◌∙◌, inl, inr, arith}
use Rattle.std.specs.Prelude.{option_and_then, slice_get}
use Rattle.std.proofs.lemmas.Bool.Decides.{nat_tests}
use Rattle.std.proofs.lemmas.Option.{slice_get_past, slice_get_within}
use Rattle.vm_model.specs.Machine.{numbered}
use Rattle.vm_model.specs.Answering.{overwrite}
use Rattle.vm_model.proofs.Parts.Lists.{get_set_same, get_set_other, numbered_place}

module _ {A : Type 0} where
  get_push : (xs : List A) (x : A) (i : ℕ) → i ≢ length xs → slice_get (xs ++ x ∷ []) i ≡ slice_get xs i
  get_push [] x zero apart = absurd (apart refl)
  get_push [] x (suc i) apart = refl
  get_push (y ∷ xs) x zero apart = refl
  get_push (y ∷ xs) x (suc i) apart = get_push xs x i (λ e. apart (ap suc e))

  get_pushed : (xs : List A) (x : A) → slice_get (xs ++ x ∷ []) (length xs) ≡ Some x
  get_pushed [] x = refl
  get_pushed (y ∷ xs) x = get_pushed xs x

  get_front : (xs ys : List A) (i : ℕ) → i < length xs → slice_get (xs ++ ys) i ≡ slice_get xs i
  get_front [] ys i less = absurd (omega arith)
  get_front (x ∷ xs) ys zero less = refl
  get_front (x ∷ xs) ys (suc i) less = get_front xs ys i (omega arith)

  get_back : (xs ys : List A) (i j : ℕ) → j ≡ length xs + i → slice_get (xs ++ ys) j ≡ slice_get ys i
  get_back [] ys i j e = ap (slice_get ys) (let s : j ≡ i = omega (arith, e) in s)
  get_back (x ∷ xs) ys i zero e = absurd (omega (arith, e))
  get_back (x ∷ xs) ys i (suc j) e = get_back xs ys i j (omega (arith, e))

  pub get_take : (n : ℕ) (xs : List A) (i : ℕ) → i < n → slice_get (take n xs) i ≡ slice_get xs i
  get_take zero xs i less = absurd (omega arith)
  get_take (suc n) [] i less = refl
  get_take (suc n) (x ∷ xs) zero less = refl
  get_take (suc n) (x ∷ xs) (suc i) less = get_take n xs i (omega arith)

  pub get_drop : (n : ℕ) (xs : List A) (i j : ℕ) → j ≡ n + i → slice_get (drop n xs) i ≡ slice_get xs j
  get_drop zero xs i j e = ap (slice_get xs) (let s : i ≡ j = omega (arith, e) in s)
  get_drop (suc n) [] i j e = refl
  get_drop (suc n) (x ∷ xs) i zero e = absurd (omega (arith, e))
  get_drop (suc n) (x ∷ xs) i (suc j) e = get_drop n xs i j (omega (arith, e))

  pub get_replicate : (n : ℕ) (x : A) (i : ℕ) → i < n → slice_get (replicate n x) i ≡ Some x
  get_replicate zero x i less = absurd (omega arith)
  get_replicate (suc n) x zero less = refl
  get_replicate (suc n) x (suc i) less = get_replicate n x i (omega arith)

  -- before, in and behind a part that is replaced
  pub overwrite_before : (at : ℕ) (part whole : List A) (i : ℕ) → at ≤ length whole → i < at → slice_get (overwrite at part whole) i ≡ slice_get whole i
  overwrite_before zero part whole i h less = absurd (omega arith)
  overwrite_before (suc at) part [] i h less = absurd (omega arith)
  overwrite_before (suc at) part (x ∷ whole) zero h less = refl
  overwrite_before (suc at) part (x ∷ whole) (suc i) h less = step ∙ overwrite_before at part whole i (omega arith) (omega arith)
    where
      step : slice_get (overwrite (suc at) part (x ∷ whole)) (suc i) ≡ slice_get (overwrite at part whole) i
      step = ap (λ (n : ℕ). slice_get ((take at whole ++ part) ++ drop n (x ∷ whole)) i) (let s : suc at + length part ≡ suc (at + length part) = omega arith in s)

  pub overwrite_in : (at : ℕ) (part whole : List A) (i j : ℕ) → at ≤ length whole → i < length part → j ≡ at + i → slice_get (overwrite at part whole) j ≡ slice_get part i
  overwrite_in zero part whole i j h less e = get_front part (drop (0 + length part) whole) j (omega (arith, e)) ∙ ap (slice_get part) (let s : j ≡ i = omega (arith, e) in s)
  overwrite_in (suc at) part [] i j h less e = absurd (omega arith)
  overwrite_in (suc at) part (x ∷ whole) i zero h less e = absurd (omega (arith, e))
  overwrite_in (suc at) part (x ∷ whole) i (suc j) h less e = step ∙ overwrite_in at part whole i j (omega arith) less (omega (arith, e))
    where
      step : slice_get (overwrite (suc at) part (x ∷ whole)) (suc j) ≡ slice_get (overwrite at part whole) j
      step = ap (λ (n : ℕ). slice_get ((take at whole ++ part) ++ drop n (x ∷ whole)) j) (let s : suc at + length part ≡ suc (at + length part) = omega arith in s)

  pub overwrite_behind : (at : ℕ) (part whole : List A) (j : ℕ) → at ≤ length whole → at + length part ≤ j → slice_get (overwrite at part whole) j ≡ slice_get whole j
  overwrite_behind zero part whole j h less = get_back part (drop (0 + length part) whole) (j - length part) j (omega arith) ∙ get_drop (0 + length part) whole (j - length part) j (omega arith)
  overwrite_behind (suc at) part [] j h less = absurd (omega arith)
  overwrite_behind (suc at) part (x ∷ whole) zero h less = absurd (omega arith)
  overwrite_behind (suc at) part (x ∷ whole) (suc j) h less = step ∙ overwrite_behind at part whole j (omega arith) (omega arith)
    where
      step : slice_get (overwrite (suc at) part (x ∷ whole)) (suc j) ≡ slice_get (overwrite at part whole) j
      step = ap (λ (n : ℕ). slice_get ((take at whole ++ part) ++ drop n (x ∷ whole)) j) (let s : suc at + length part ≡ suc (at + length part) = omega arith in s)

pub zero_or : (n : ℕ) → (n ≡ 0) ⊎ (1 ≤ n)
zero_or zero = inl refl
zero_or (suc n) = inr (omega arith)

-- What has a number, after a change

module _ {A : Type 0} where
  pub at_zero : (xs : List (Option A)) (n : ℕ) → n ≡ 0 → numbered xs n ≡ None
  at_zero xs n e = ap (λ (b : Bool). cond b None (option_and_then (λ x. x) (slice_get xs (n - 1)))) (let s : (n == 0) ≡ true = grind (arith, nat_tests) in s)

  pub at_some : (xs : List (Option A)) (n : ℕ) → 1 ≤ n → numbered xs n ≡ option_and_then (λ x. x) (slice_get xs (n - 1))
  at_some xs n h = ap (λ (b : Bool). cond b None (option_and_then (λ x. x) (slice_get xs (n - 1)))) (let s : (n == 0) ≡ false = grind (arith, nat_tests) in s)

  -- one is added
  pub numbered_push : (xs : List (Option A)) (x : Option A) (n : ℕ) → n ≢ length xs + 1 → numbered (xs ++ x ∷ []) n ≡ numbered xs n
  numbered_push xs x n apart = elim (zero_or n) [
    | inl e ↦ at_zero (xs ++ x ∷ []) n e ∙ sym (at_zero xs n e)
    | inr some ↦ at_some (xs ++ x ∷ []) n some ∙ ap (option_and_then (λ y. y)) (get_push xs x (n - 1) (λ e. apart (omega (arith, e, some)))) ∙ sym (at_some xs n some)
  ]

  pub numbered_pushed : (xs : List (Option A)) (x : Option A) (n : ℕ) → n ≡ length xs + 1 → numbered (xs ++ x ∷ []) n ≡ x
  numbered_pushed xs x n e = at_some (xs ++ x ∷ []) n (omega (arith, e)) ∙ ap (option_and_then (λ y. y)) (ap (slice_get (xs ++ x ∷ [])) (let s : n - 1 ≡ length xs = omega (arith, e) in s) ∙ get_pushed xs x)

  pub numbered_past : (xs : List (Option A)) (n : ℕ) → n ≡ length xs + 1 → numbered xs n ≡ None
  numbered_past xs n e = at_some xs n (omega (arith, e)) ∙ ap (option_and_then (λ y. y)) (slice_get_past xs (n - 1) (omega (arith, e)))

  -- one is replaced
  pub numbered_set : (xs : List (Option A)) (n : ℕ) (x : A) (v : Option A) → numbered xs n ≡ Some x → numbered (set xs (n - 1) v) n ≡ v
  numbered_set xs n x v there =
      let at = numbered_place xs n x there in
      at_some (set xs (n - 1) v) n at.0 ∙ ap (option_and_then (λ y. y)) (get_set_same xs (n - 1) v (slice_get_within xs (n - 1) (Some x) at.1))

  pub numbered_set_other : (xs : List (Option A)) (n k : ℕ) (v : Option A) → 1 ≤ n → k ≢ n → numbered (set xs (n - 1) v) k ≡ numbered xs k
  numbered_set_other xs n k v some apart = elim (zero_or k) [
    | inl e ↦ at_zero (set xs (n - 1) v) k e ∙ sym (at_zero xs k e)
    | inr big ↦ at_some (set xs (n - 1) v) k big ∙ ap (option_and_then (λ y. y)) (get_set_other xs (n - 1) (k - 1) v (λ e. apart (omega (arith, e, some, big)))) ∙ sym (at_some xs k big)
  ]
