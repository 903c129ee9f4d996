-- The stretches as a finite map, from a number to what is said of it.
use Rattle.std.specs.Prelude.{ℕ, zero, suc, ◌+◌, List, [], ◌∷◌}
use Rattle.std.specs.Ordering.{nat_cmp}
use Rattle.std.specs.FinMap.{FinMap}
use Rattle.std.specs.FinMap as map
use Rattle.stretches.specs.declared.says.Says.{Ghosts}
use Rattle.stretches.specs.declared.stretch.Stretch.{Stretch}

module _ {V : Type 0} (S : Ghosts V) where
  -- the map with what a stretch says of its first numbers, so many, one after the other
  abbrev pub with_first : FinMap nat_cmp V → Stretch V → ℕ → FinMap nat_cmp V
  with_first m r zero = m
  with_first m r (suc k) = map.insert (with_first m r k) (r.first + k) (S.after r.value k)

  -- the map with what a stretch says of each of its numbers
  abbrev pub with_stretch : FinMap nat_cmp V → Stretch V → FinMap nat_cmp V
  with_stretch m r = with_first m r r.count

  -- what the stretches say of each number
  unfoldable pub cells : List (Stretch V) → FinMap nat_cmp V
  cells [] = map.empty
  cells (r ∷ rs) = with_stretch (cells rs) r

module _ {V : Type 0} where
  -- the map without the first numbers of a stretch, so many
  abbrev pub without_first : FinMap nat_cmp V → Stretch V → ℕ → FinMap nat_cmp V
  without_first m r zero = m
  without_first m r (suc k) = map.remove (without_first m r k) (r.first + k)

  -- the map without the numbers of a stretch
  abbrev pub without_stretch : FinMap nat_cmp V → Stretch V → FinMap nat_cmp V
  without_stretch m r = without_first m r r.count
