-- Where a number belongs among entries that have numbers.
use Rattle.std.specs.Prelude.{ℕ, ◌≤◌, ◌<◌, List, length, slice_index_or}

-- the numbers of the entries before this place aren't above the number, the others are
pub record IsParted {X : Type 0} (key : X → ℕ) (xs : List X) (n at : ℕ) : Type 0 where
  pub within : at ≤ length xs
  pub before : (k : ℕ) (d : X) → k < at → key (slice_index_or xs k d) ≤ n
  pub behind : (k : ℕ) (d : X) → at ≤ k → k < length xs → n < key (slice_index_or xs k d)
