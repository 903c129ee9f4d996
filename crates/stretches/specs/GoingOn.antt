-- How what is said of a number goes on with the next ones.
use Rattle.std.specs.Prelude.{◌≡◌, ℕ, ◌+◌, ◌↔◌}

-- `after v n` is what is said n numbers further on, and `lasts v n` that v goes on for n numbers.
pub record GoesOn {V : Type 0} (after : V → ℕ → V) (lasts : V → ℕ → Type 0) : Type 0 where
  pub starts : (v : V) → after v 0 ≡ v
  pub composes : (v : V) (a b : ℕ) → after (after v a) b ≡ after v (a + b)
  pub splits : (v : V) (a b : ℕ) → lasts v (a + b) ↔ (lasts v a × lasts (after v a) b)
