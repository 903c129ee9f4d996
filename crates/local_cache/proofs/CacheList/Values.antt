-- What is at numbers that follow one another.
use Rattle.std.proofs.Common.{◌≡◌, ◌≢◌, ℕ, zero, suc, ◌+◌, ◌<◌, ◌≤◌, replicate, [], ◌∷◌, ◌++◌, length, set, Some, None, slice_get, refl, ap, ◌∙◌, arith}
use Rattle.local_cache.specs.CacheList.{values}

module _ {X : Type 0} where
  pub length_values : (f : ℕ → X) (from k : ℕ) → length (values f from k) ≡ k
  length_values f from zero = refl
  length_values f from (suc k) = let rest = length_values f (from + 1) k in omega (arith, rest)

  pub value_at : (f : ℕ → X) (from k p : ℕ) → p < k
      → slice_get (values f from k) p ≡ Some (f (from + p))
  value_at f from zero p below = let bad : ⊥ = omega (arith, below) in absurd bad
  value_at f from (suc k) zero below =
      let at : from ≡ from + 0 = omega arith in
      ap (λ (n : ℕ). Some (f n)) at
  value_at f from (suc k) (suc p) below =
      let at : from + 1 + p ≡ from + suc p = omega arith in
      value_at f (from + 1) k p (omega (arith, below)) ∙ ap (λ (n : ℕ). Some (f n)) at

  pub value_past : (f : ℕ → X) (from k p : ℕ) → k ≤ p → slice_get (values f from k) p ≡ None
  value_past f from zero p above = refl
  value_past f from (suc k) zero above = let bad : ⊥ = omega (arith, above) in absurd bad
  value_past f from (suc k) (suc p) above = value_past f (from + 1) k p (omega (arith, above))

  pub values_same : (f g : ℕ → X) (from k : ℕ)
      → ((n : ℕ) → from ≤ n → n < from + k → g n ≡ f n) → values g from k ≡ values f from k
  values_same f g from zero same = refl
  values_same f g from (suc k) same =
      let one = same from (omega arith) (omega arith) in
      let rest = values_same f g (from + 1) k
      (λ n low high. same n (omega (arith, low)) (omega (arith, high))) in
      λ i. one i ∷ rest i

  -- what is at one number is another one
  pub values_set : (f g : ℕ → X) (x : X) (from k d : ℕ) → g (from + d) ≡ x
      → ((n : ℕ) → n ≢ from + d → g n ≡ f n) → values g from k ≡ set (values f from k) d x
  values_set f g x from zero d here others = refl
  values_set f g x from (suc k) zero here others =
      let at : from ≡ from + 0 = omega arith in
      let one : g from ≡ x = ap g at ∙ here in
      let rest = values_same f g (from + 1) k
      (λ n low high. others n (λ e. let bad : ⊥ = omega (arith, low, e) in bad)) in
      λ i. one i ∷ rest i
  values_set f g x from (suc k) (suc d) here others =
      let at : from + 1 + d ≡ from + suc d = omega arith in
      let one : g from ≡ f from = others from (λ e. let bad : ⊥ = omega (arith, e) in bad) in
      let rest = values_set f g x (from + 1) k d (ap g at ∙ here)
      (λ n apart. others n (λ e. apart (let same : n ≡ from + 1 + d = omega (arith, e) in same))) in
      λ i. one i ∷ rest i

  -- the same is at each number
  pub values_all : (f : ℕ → X) (x : X) (from k : ℕ)
      → ((n : ℕ) → from ≤ n → n < from + k → f n ≡ x) → values f from k ≡ replicate k x
  values_all f x from zero same = refl
  values_all f x from (suc k) same =
      let one = same from (omega arith) (omega arith) in
      let rest = values_all f x (from + 1) k
      (λ n low high. same n (omega (arith, low)) (omega (arith, high))) in
      λ i. one i ∷ rest i

  -- one number more
  pub values_more : (f : ℕ → X) (from k : ℕ)
      → values f from (suc k) ≡ values f from k ++ f (from + k) ∷ []
  values_more f from zero = let at : from ≡ from + 0 = omega arith in λ i. f (at i) ∷ []
  values_more f from (suc k) =
      let at : from + 1 + k ≡ from + suc k = omega arith in
      let rest = values_more f (from + 1) k in
      (λ i. f from ∷ rest i) ∙ (λ i. f from ∷ values f (from + 1) k ++ f (at i) ∷ [])
