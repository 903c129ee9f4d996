-- Which frame a policy picks.
use Rattle.std.specs.Prelude.{ℕ, ◌+◌, ◌%◌, Bool, List, [], ◌∷◌, length, drop, position, slice_index, slice_get, unwrap_or, nat_lt, nat_le, ◌&&◌, ◌||◌, ◌≡◌, Some, true, false, if◌then◌else◌}
use Rattle.std.specs.Option.{option_map_or}

-- the first place of a list that is true, or 0 where none is
abbrev pub first_true : List Bool → ℕ
first_true may = unwrap_or (position (λ b. b) may) 0

-- the first place from the hand on that is true, or else the first of all: once round
abbrev pub next_true : List Bool → ℕ → ℕ
next_true may hand =
    option_map_or (λ i. hand + i) (position (λ b. b) (drop hand may)) (first_true may)

-- the places that are true, in rising order, where the first place is numbered so
abbrev pub true_places : ℕ → List Bool → List ℕ
true_places n [] = []
true_places n (b ∷ bs) = if b then n ∷ true_places (n + 1) bs else true_places (n + 1) bs

-- the place of this number among them
abbrev pub nth_true : List Bool → ℕ → ℕ
nth_true may number = slice_index (true_places 0 may) number

-- counted round
abbrev pub chosen : List Bool → ℕ → ℕ
chosen may choice = nth_true may (choice % length (true_places 0 may))

-- the next choice of a list, or 0 where it is used up
abbrev pub next_choice : List ℕ → ℕ
next_choice [] = 0
next_choice (k ∷ ks) = k

-- the hand, at the front again where it is past the end
abbrev pub hand_in : List Bool → ℕ → ℕ
hand_in may hand = if nat_lt hand (length may) then hand else 0

-- a place that may be picked and isn't marked as referenced
abbrev pub IsUnmarked : List Bool → List Bool → ℕ → Type 0
IsUnmarked may referenced k = (slice_get may k ≡ Some true) × (slice_get referenced k ≡ Some false)

-- the hand passes this place on its way, upwards and round, before it comes to the pick
abbrev pub is_passed : ℕ → ℕ → ℕ → Bool
is_passed hand pick k =
    if nat_le hand pick then nat_le hand k && nat_lt k pick else nat_le hand k || nat_lt k pick

abbrev pub IsPassed : ℕ → ℕ → ℕ → Type 0
IsPassed hand pick k = is_passed hand pick k ≡ true
