-- What stretches say after a change, of each number.
use Rattle.std.specs.Prelude.{◌≡◌, ℕ, true, ◌==◌, if◌then◌else◌, List, Some, None}
use Rattle.stretches.specs.declared.says.Says.{Ghosts}
use Rattle.stretches.specs.declared.stretch.Stretch.{Stretch}
use Rattle.stretches.specs.Stretch.{is_in, value_at}
use Rattle.stretches.specs.Stretches.{said}

module _ {V : Type 0} (S : Ghosts V) where
  -- no number of a stretch is in the stretches
  abbrev pub IsVacantFor : List (Stretch V) → Stretch V → Type 0
  IsVacantFor rs r = (n : ℕ) → is_in r n ≡ true → said S rs n ≡ None

  -- of each number what was said
  abbrev pub SaySame : List (Stretch V) → List (Stretch V) → Type 0
  SaySame old new = (n : ℕ) → said S new n ≡ said S old n

  -- of the numbers of a stretch what this says, and of all others what was said
  abbrev pub SayAlso : List (Stretch V) → Stretch V → List (Stretch V) → Type 0
  SayAlso old r new = (n : ℕ) →
      said S new n ≡ (if is_in r n then Some (value_at S r n) else said S old n)

  -- of the numbers of a stretch nothing, and of all others what was said
  abbrev pub SayNoMore : List (Stretch V) → Stretch V → List (Stretch V) → Type 0
  SayNoMore old r new = (n : ℕ) → said S new n ≡ (if is_in r n then None else said S old n)

  -- of one number this, and of all others what was said
  abbrev pub SayOfOne : List (Stretch V) → ℕ → V → List (Stretch V) → Type 0
  SayOfOne old m v new = (n : ℕ) → said S new n ≡ (if n == m then Some v else said S old n)
