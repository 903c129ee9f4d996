-- Answers to the lines of a script, one after the other, whatever the lines are and whatever
-- answers them.
use Rattle.std.specs.Prelude.{◌≡◌, ℕ, ◌+◌, List, [], ◌∷◌, map, Option}
use Rattle.vm_ids.specs.Counting.{MapperCounts, no_counts, counts_sum}
use Rattle.vm_model.specs.Answering.{Answer}

-- What a script means:
--     State      what there is between two answers
--     Read       a line as it was read
--     actor_of   the actor of a line that is an access; none of any other line
--     StepIs     a line is answered so, by which the mapper's counts rise, and which leads from one
--                state to the next
--     Admits     nothing refuses this line in this state
pub record Semantics : Type 1 where
  pub State : Type 0
  pub Read : Type 0
  pub actor_of : Read → Option ℕ
  pub StepIs : State → Read → Answer → MapperCounts → State → Type 0
  pub Admits : State → Read → Type 0

-- The answer to one line, and by how much the mapper's counts rose in it. Lines are numbered from
-- 1.
pub record Step (Read : Type 0) : Type 0 where
  pub number : ℕ
  pub read : Read
  pub answer : Answer
  pub rises : MapperCounts

-- one answer after another, whichever lines they are of
abbrev pub Chain : (S : Semantics) → S.State → List (Step S.Read) → S.State → Type 0
Chain S before [] after = after ≡ before
Chain S before (step ∷ steps) after =
    (between : S.State) × S.StepIs before step.read step.answer step.rises between
    × Chain S between steps after

-- the line that a step is of: its number, and what was read there
abbrev pub line_answered : {Read : Type 0} → Step Read → ℕ × Read
line_answered step = (step.number, step.read)

abbrev pub lines_answered : {Read : Type 0} → List (Step Read) → List (ℕ × Read)
lines_answered steps = map line_answered steps

-- all lines of a script, the first of which has this number
abbrev pub numbered_from : {Read : Type 0} → ℕ → List Read → List (ℕ × Read)
numbered_from first [] = []
numbered_from first (read ∷ reads) = (first, read) ∷ numbered_from (first + 1) reads

-- by how much the counts rise in all steps together
abbrev pub rises_of : {Read : Type 0} → List (Step Read) → MapperCounts
rises_of [] = no_counts
rises_of (step ∷ steps) = counts_sum step.rises (rises_of steps)
