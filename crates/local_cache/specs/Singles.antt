-- A list of stretches as a map from numbers.
use Rattle.std.specs.Prelude.{◌≡◌, ℕ, zero, suc, ◌+◌}
use Rattle.std.specs.Ordering.{nat_cmp}
use Rattle.std.specs.FinMap.{FinMap}
use Rattle.std.specs.FinMap as map
use Rattle.stretches.specs.declared.says.Says.{Ghosts}
use Rattle.stretches.specs.Cells.{cells}
use Rattle.stretches.specs.Stretches.{Stretches, number_count}

-- as many numbers are counted as the map has
abbrev pub IsCounted : {V : Type 0} → Ghosts V → Stretches V → Type 0
IsCounted S l = number_count l.list ≡ map.len (cells S l.list)

module _ {V : Type 0} where
  -- the map without so many numbers, from one on
  abbrev pub without_range : FinMap nat_cmp V → ℕ → ℕ → FinMap nat_cmp V
  without_range m first zero = m
  without_range m first (suc k) = map.remove (without_range m first k) (first + k)
