-- The cell of a place, read.
use Rattle.std.proofs.Common.{◌≡◌, ℕ, zero, suc, ◌<◌, ◌≤◌, List, [], ◌∷◌, length, Some, None, refl, arith}
use Rattle.linear_index.specs.declared.cell.Cell.{Cell}
use Rattle.linear_index.specs.declared.cell.Link.{Link}
use Rattle.linear_index.specs.declared.cell.Link.TheVariants.{Free, Last, Before}
use Rattle.linear_index.specs.Chains.{key_at, key_by}

-- a place past the last is free
pub past : (cells : List Cell) (p : ℕ) → length cells ≤ p → key_at cells p ≡ None
past [] p e = refl
past (x ∷ xs) zero e = absurd (omega arith)
past (x ∷ xs) (suc p) e = past xs p (omega arith)

-- a place with a key isn't past the last
pub below : (cells : List Cell) (p k : ℕ) → key_at cells p ≡ Some k → p < length cells
below [] p k e = absurd (cc)
below (x ∷ xs) zero k e = omega arith
below (x ∷ xs) (suc p) k e = omega (arith, below xs p k e)

-- the key of a cell in which one is entered
pub key_is : (l : Link) (key k : ℕ) → key_by l key ≡ Some k → key ≡ k
key_is Free key k e = absurd (cc)
key_is Last key k e = cc
key_is (Before p) key k e = cc
