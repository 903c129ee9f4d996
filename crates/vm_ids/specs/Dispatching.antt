-- What a dispatcher answers that tells its turns. A dispatcher is asked which of the accesses that
-- wait is delivered next, and answers its place among them, or none.
use Rattle.std.specs.Prelude.{◌≡◌, ℕ, ◌%◌, List, [], ◌∷◌, drop, Option, None, option_map}

-- its next turn among so many accesses that wait: the place is counted round, and where no turn is
-- left it is none
abbrev pub next_turn : List (Option ℕ) → ℕ → Option ℕ
next_turn [] outstanding = None
next_turn (turn ∷ turns) outstanding = option_map (λ place. place % outstanding) turn

-- These are its turns, one after the other: with how many accesses it was asked, and what it
-- answered. The last list is what is left.
abbrev pub GivesTurns : List (Option ℕ) → List (ℕ × Option ℕ) → List (Option ℕ) → Type 0
GivesTurns told [] left = left ≡ told
GivesTurns told (asked ∷ later) left =
    (asked.1 ≡ next_turn told asked.0) × GivesTurns (drop 1 told) later left
