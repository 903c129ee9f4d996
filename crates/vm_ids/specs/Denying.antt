-- Which pages of segments are denied for writing.
use Rattle.std.specs.Prelude.{◌==◌, ◌&&◌, ℕ, Bool, List}
use Rattle.std.specs.List.{list_any}

-- the page of the segment stands in the list of denied pages
abbrev pub denies : List (ℕ × ℕ) → ℕ → ℕ → Bool
denies denied seg page = list_any (λ (d : ℕ × ℕ). d.0 == seg && d.1 == page) denied
