-- Spots in leaves, and how many entries stand before one.
use Rattle.std.specs.Prelude.{◌≡◌, ℕ, zero, suc, ◌+◌, ◌<◌, ◌≤◌, List, [], ◌∷◌, length, slice_index_or}
use Rattle.stretches.specs.declared.spot.Pair.{Pair}
use Rattle.stretches.specs.declared.spot.Spot.{Spot}
use Rattle.stretches.specs.Leaves.{Leaves, entries, leaf_at}

module _ {X : Type 0} where
  -- how many entries stand before the k-th one of the leaf at an index
  abbrev pub index_at : List (List X) → ℕ → ℕ → ℕ
  index_at [] j k = k
  index_at (l ∷ ls) zero k = k
  index_at (l ∷ ls) (suc j) k = length l + index_at ls j k

  -- how many entries stand before a spot
  abbrev pub index : Leaves X → Spot → ℕ
  index l p = index_at l.lists p.leaf p.at

  -- an entry stands at the spot
  pub record IsHeld (l : Leaves X) (p : Spot) : Type 0 where
    pub leaf : p.leaf < length l.lists
    pub at : p.at < length (leaf_at l.lists p.leaf)

  -- an entry stands at the spot or could be put there, before what stands there
  pub record IsSpot (l : Leaves X) (p : Spot) : Type 0 where
    pub leaf : 0 < length l.lists → p.leaf < length l.lists
    pub at : p.at ≤ length (leaf_at l.lists p.leaf)

  -- an entry stands wherever one stood, behind as many
  pub record SameSpots (old new : Leaves X) : Type 0 where
    pub held : (p : Spot) → IsHeld old p → IsHeld new p
    pub indexes : (p : Spot) → index new p ≡ index old p

  -- entries stand at both spots, the second right behind the first
  pub record IsPair (l : Leaves X) (p : Pair) : Type 0 where
    pub first : IsHeld l p.first
    pub second : IsHeld l p.second
    pub next : index l p.second ≡ index l p.first + 1

  -- this entry stands behind so many
  abbrev pub IsEntry : Leaves X → ℕ → X → Type 0
  IsEntry l at x = slice_index_or (entries l) at x ≡ x
