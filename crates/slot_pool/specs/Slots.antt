-- Swap slots, as the list of which are held.
use Rattle.std.specs.Prelude.{ℕ, Bool, false, List, slice_index_or, count_by}

-- a slot at or past the capacity isn't held
abbrev pub is_held : List Bool → ℕ → Bool
is_held slots slot = slice_index_or slots slot false

abbrev pub held_count : List Bool → ℕ
held_count slots = count_by (λ held. held) slots
