-- Changes of many cells: step by step, or stretch by stretch.
use Rattle.std.specs.Prelude.{◌≡◌, ℕ, zero, suc, ◌+◌, ◌<◌, ◌≤◌, List, [], ◌∷◌, Option, Some, None, ◌⊎◌}
use Rattle.std.specs.Ordering.{nat_cmp}
use Rattle.std.specs.FinMap.{FinMap}
use Rattle.std.specs.FinMap as map

-- what is written to the cells from a number on: the i-th becomes this, or goes
pub record Writing (X : Type 0) : Type 0 where
  pub first : ℕ
  pub cell : ℕ → Option X

module _ {X : Type 0} where
  -- the map with this in a cell, or with nothing there
  unfoldable pub write : FinMap nat_cmp X → ℕ → Option X → FinMap nat_cmp X
  write m n None = map.remove m n
  write m n (Some x) = map.insert m n x

  -- the first cells of a writing, so many
  abbrev pub write_stretch : FinMap nat_cmp X → Writing X → ℕ → FinMap nat_cmp X
  write_stretch m s zero = m
  write_stretch m s (suc k) = write (write_stretch m s k) (s.first + k) (s.cell k)

  -- so many cells of each writing, one writing after the other
  abbrev pub write_stretches : FinMap nat_cmp X → List (Writing X) → ℕ → FinMap nat_cmp X
  write_stretches m [] k = m
  write_stretches m (s ∷ ss) k = write_stretches (write_stretch m s k) ss k

  -- the i-th cell of each writing
  abbrev pub write_cells : FinMap nat_cmp X → List (Writing X) → ℕ → FinMap nat_cmp X
  write_cells m [] i = m
  write_cells m (s ∷ ss) i = write_cells (write m (s.first + i) (s.cell i)) ss i

  -- the steps below k, one after the other
  abbrev pub steps : (FinMap nat_cmp X → ℕ → FinMap nat_cmp X) → FinMap nat_cmp X → ℕ
      → FinMap nat_cmp X
  steps step m zero = m
  steps step m (suc k) = step (steps step m k) k

  -- so many cells of a writing have no number in common with those of others
  abbrev pub IsApart : Writing X → List (Writing X) → ℕ → Type 0
  IsApart s [] k = Unit {0}
  IsApart s (t ∷ ts) k = ((s.first + k ≤ t.first) ⊎ (t.first + k ≤ s.first)) × IsApart s ts k

  -- no two writings have a number in common
  abbrev pub AreApart : List (Writing X) → ℕ → Type 0
  AreApart [] k = Unit {0}
  AreApart (s ∷ ss) k = IsApart s ss k × AreApart ss k

  -- the i-th cells of the writings are the same in both maps
  abbrev pub AgreeAt : List (Writing X) → ℕ → FinMap nat_cmp X → FinMap nat_cmp X → Type 0
  AgreeAt [] i m n = Unit {0}
  AgreeAt (s ∷ ss) i m n =
      (map.get m (s.first + i) ≡ map.get n (s.first + i)) × AgreeAt ss i m n

  -- each step below k makes the i-th writes, wherever it finds the i-th cells as they are in m
  abbrev pub Writes : (FinMap nat_cmp X → ℕ → FinMap nat_cmp X) → FinMap nat_cmp X
      → List (Writing X) → ℕ → Type 0
  Writes step m ss k =
      (i : ℕ) (n : FinMap nat_cmp X) → i < k → AgreeAt ss i n m → step n i ≡ write_cells n ss i
