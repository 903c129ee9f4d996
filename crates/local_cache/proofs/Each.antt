-- What is done so many times.
use Rattle.std.proofs.Common.{◌≡◌, ℕ, zero, suc, ◌+◌, ◌<◌, refl, ap, sym, ◌∙◌, arith}
use Rattle.local_cache.specs.ManyNodes.{each}

module _ {A : Type 0} where
  -- steps that do the same come to the same
  pub each_same : (s t : ℕ → A → A) (count : ℕ) → ((k : ℕ) (a : A) → s k a ≡ t k a) → (a : A) → each s count a ≡ each t count a
  each_same s t zero h a = refl
  each_same s t (suc k) h a = h k (each s k a) ∙ ap (t k) (each_same s t k h a)

  -- so many steps, and then so many from there on: the pieces of a loop
  pub each_more : (s : ℕ → A → A) (a b : ℕ) (x : A) → each s (a + b) x ≡ each (λ k. s (a + k)) b (each s a x)
  each_more s a zero x = (let e : a + 0 ≡ a = omega arith in ap (λ n. each s n x) e)
  each_more s a (suc b) x = (let e : a + suc b ≡ suc (a + b) = omega arith in ap (λ n. each s n x) e ∙ ap (s (a + b)) (each_more s a b x))
