-- Counts that never fall, end at one number and stay there.
use Rattle.std.specs.Prelude.{◌≡◌, ℕ, ◌+◌, ◌-◌, ◌<◌, ◌≤◌, ◌^◌, Result, OnErr}

-- A count ends at this number and stays there.
abbrev pub last_count : ℕ
last_count = 2 ^ 64 - 1

-- The count rose. It is asked only below the last number.
abbrev pub Rose : ℕ → ℕ → Type 0
Rose before now = now < last_count → before < now

-- The count rose by this number, likewise.
abbrev pub RoseBy : ℕ → ℕ → ℕ → Type 0
RoseBy n before now = now < last_count → now ≡ before + n

-- An error is told only where the count of faults rose.
pub record HasCause {T E : Type 0} (before now : ℕ) (result : Result T E) : Type 0 where
  pub later : before ≤ now
  pub failed : OnErr result (Rose before now)

-- The three counts of a mapper: its faults, and its pulls and pushes, those that failed among them.
pub record MapperCounts : Type 0 where
  pub faults : ℕ
  pub pulls : ℕ
  pub pushes : ℕ

-- One call with so many pulls and pushes, which count where it fails too.
pub record Counted {T E : Type 0} (pulls pushes : ℕ) (before now : MapperCounts)
    (result : Result T E) : Type 0 where
  pub faults : HasCause before.faults now.faults result
  pub pulls_later : before.pulls ≤ now.pulls
  pub pulled : RoseBy pulls before.pulls now.pulls
  pub pushes_later : before.pushes ≤ now.pushes
  pub pushed : RoseBy pushes before.pushes now.pushes

-- From before to now the faults rose by at least these, the pulls and the pushes by exactly these.
pub record Rise (before now rises : MapperCounts) : Type 0 where
  pub faults_later : before.faults ≤ now.faults
  pub pulls_later : before.pulls ≤ now.pulls
  pub pushes_later : before.pushes ≤ now.pushes
  pub faults : now.faults < last_count → before.faults + rises.faults ≤ now.faults
  pub pulls : RoseBy rises.pulls before.pulls now.pulls
  pub pushes : RoseBy rises.pushes before.pushes now.pushes

abbrev pub no_counts : MapperCounts
no_counts = record { faults = 0; pulls = 0; pushes = 0 }

abbrev pub counts_sum : MapperCounts → MapperCounts → MapperCounts
counts_sum a b =
    record { faults = a.faults + b.faults; pulls = a.pulls + b.pulls; pushes = a.pushes + b.pushes }
