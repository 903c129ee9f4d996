-- A pool of numbers, as the list of which are taken.
use Rattle.std.specs.Prelude.{ℕ, Bool, false, List, slice_index_or, count_by}

-- a number at or past the bound isn't taken
abbrev pub is_taken : List Bool → ℕ → Bool
is_taken numbers number = slice_index_or numbers number false

abbrev pub taken_count : List Bool → ℕ
taken_count numbers = count_by (λ taken. taken) numbers
