-- Where stretches stand in a list, and in which leaf a number belongs. No public clause cites this module.
use Rattle.std.specs.Prelude.{◌≡◌, ℕ, suc, ◌≤◌, ◌<◌, true, List, [], ◌∷◌, length, slice_index_or}
use Rattle.stretches.specs.declared.stretch.Stretch.{Stretch}
use Rattle.stretches.specs.Leaves.{leaf_at}
use Rattle.stretches.specs.Parted.{IsParted}
use Rattle.stretches.specs.Stretch.{is_in}

module _ {X : Type 0} (key : X → ℕ) where
  -- the number of the first entry of a leaf, or 0 of no entry
  abbrev pub first_key : List X → ℕ
  first_key [] = 0
  first_key (x ∷ xs) = key x

  -- the first number of the leaf isn't above the number, or it is the first leaf, and that of the
  -- next leaf is
  pub record IsLeafFor (ls : List (List X)) (n j : ℕ) : Type 0 where
    pub within : j < length ls
    pub before : 0 < j → first_key (leaf_at ls j) ≤ n
    pub behind : suc j < length ls → n < first_key (leaf_at ls (suc j))

module _ {V : Type 0} where
  -- the stretches before this place begin at the number or before it, the others behind it
  abbrev pub IsFirstBehind : List (Stretch V) → ℕ → ℕ → Type 0
  IsFirstBehind rs n at = IsParted (λ (r : Stretch V). r.first) rs n at

  -- the stretch at this place has the number
  pub record HasAt (rs : List (Stretch V)) (n at : ℕ) : Type 0 where
    pub within : at < length rs
    pub has : (d : Stretch V) → is_in (slice_index_or rs at d) n ≡ true

  -- this is the stretch at some place
  pub record Stands (rs : List (Stretch V)) (r : Stretch V) : Type 0 where
    pub at : ℕ
    pub within : at < length rs
    pub is : (d : Stretch V) → slice_index_or rs at d ≡ r

  -- the stretch at this place begins at the number and has so many
  pub record IsPart (rs : List (Stretch V)) (n many at : ℕ) : Type 0 where
    pub within : at < length rs
    pub first : (d : Stretch V) → (slice_index_or rs at d).first ≡ n
    pub count : (d : Stretch V) → (slice_index_or rs at d).count ≡ many
