-- In which order lines are answered.
use Rattle.std.specs.Prelude.{◌≡◌, ◌≢◌, ◌⊎◌, ◌<◌, ℕ, List, ◌++◌, drop, Some, IsPermutation}
use Rattle.std.specs.List.{AllPairs}
use Rattle.vm_model.specs.Steps.{Semantics, lines_answered, numbered_from}
use Rattle.vm_model.specs.Events.{Event, Stand, steps_of}

-- These lines are accesses of different actors.
pub record AreApart (S : Semantics) (a b : S.Read) : Type 0 where
  pub one : ℕ
  pub other : ℕ
  pub one_is : S.actor_of a ≡ Some one
  pub other_is : S.actor_of b ≡ Some other
  pub apart : one ≢ other

-- The first line may be answered before the second: it is the earlier one, or both are accesses, of
-- different actors.
abbrev pub MayComeFirst : (S : Semantics) → ℕ × S.Read → ℕ × S.Read → Type 0
MayComeFirst S a b = (a.0 < b.0) ⊎ AreApart S a.1 b.1

-- The lines of a script stand here as they are answered: each of them once, and a later line before
-- an earlier one only where both are accesses, of different actors. So those of one actor rise, and
-- a line that is no access stands behind all earlier lines and before all later ones.
pub record IsInOrder (S : Semantics) (reads : List S.Read) (lines : List (ℕ × S.Read))
    : Type 0 where
  pub once : IsPermutation (numbered_from 1 reads) lines
  pub order : AllPairs (MayComeFirst S) lines

-- the lines that events have answered, behind them those that are parked, and then those that were
-- not issued yet
abbrev pub answer_order : (S : Semantics) → List S.Read → List (Event S.Read) → Stand S
    → List (ℕ × S.Read)
answer_order S reads events s =
    lines_answered (steps_of events) ++ (s.parked ++ drop s.issued (numbered_from 1 reads))
