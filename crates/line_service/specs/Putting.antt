-- Answers that are put, one after another.
use Rattle.std.specs.Prelude.{◌≡◌, ℕ, List, [], ◌∷◌, ◌++◌, Result, Ok, Err}
use Rattle.vm_model.specs.Answering.{Answer}
use Rattle.vm_model.specs.Steps.{Step}

-- What one answer more does to what there is: `puts` says it of an answer that was put, `fails` of
-- one that couldn't be.
abbrev pub Puts : Type 0 → Type 1
Puts W = W → ℕ → Answer → W → Type 0

-- The answers of steps were put, one after another.
abbrev pub PutsAll : {W Read : Type 0} → Puts W → W → List (Step Read) → W → Type 0
PutsAll puts before [] after = after ≡ before
PutsAll {W} puts before (step ∷ steps) after =
    (between : W) × puts before step.number step.answer between
    × PutsAll puts between steps after

-- The answers of steps were put but for the last, which couldn't be.
pub record PutsTillLast {W Read : Type 0} (puts fails : Puts W) (before : W)
    (steps : List (Step Read)) (after : W) : Type 0 where
  pub front : List (Step Read)
  pub last : Step Read
  pub parts : steps ≡ front ++ last ∷ []
  pub between : W
  pub put : PutsAll puts before front between
  pub failed : fails between last.number last.answer after

-- All were put, or else all but the last.
abbrev pub PutsOr : {T E W Read : Type 0} → Result T E → Puts W → Puts W → W → List (Step Read) → W
    → Type 0
PutsOr (Ok x) puts fails before steps after = PutsAll puts before steps after
PutsOr (Err e) puts fails before steps after = PutsTillLast puts fails before steps after
