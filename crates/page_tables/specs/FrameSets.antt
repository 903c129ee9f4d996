-- Sets of page frames.
use Rattle.std.specs.Prelude.{◌≡◌, ℕ, ◌^◌, ◌<◌, ◌≤◌, Bool, false, List, length, Option, Some, None, is_some, count_by, slice_index, slice_index_or}

-- a set has a frame; it has none past the last
abbrev pub has : List Bool → ℕ → Bool
has frames frame = slice_index_or frames frame false

-- how many frames a set has
abbrev pub count_in : List Bool → ℕ
count_in frames = count_by (λ is. is) frames

-- where a frame stands in a set
abbrev pub place_in : List (Option ℕ) → ℕ → Option ℕ
place_in places frame = slice_index_or places frame None

-- each frame of a set stands once, and where it stands is known
pub record IsFrameSet (frames : List ℕ) (places : List (Option ℕ)) : Type 0 where
  pub few : length places ≤ 2 ^ 16
  pub counted : length frames ≡ count_by is_some places
  pub stands : (place : ℕ) → place < length frames
      → place_in places (slice_index frames place) ≡ Some place
  pub there : (frame place : ℕ) → place_in places frame ≡ Some place
      → (place < length frames) × (slice_index frames place ≡ frame)
