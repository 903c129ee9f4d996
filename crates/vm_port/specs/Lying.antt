-- What a mapper is that gives wrong pages.
use Rattle.std.specs.Prelude.{ℕ, ◌+◌, ◌-◌, ◌%◌, ◌^◌, List, min, replicate}
use Rattle.vm_ids.specs.Counting.{MapperCounts}

-- The number whose low byte fills the next page that is pulled, the page that the last pull gave,
-- and its counts of faults, pulls and pushes.
pub record LyingInMemory : Type 0 where
  pub next : ℕ
  pub given : List ℕ
  pub counts : MapperCounts

-- so many bytes, each the low byte of the number
abbrev pub wrong_page : ℕ → ℕ → List ℕ
wrong_page number length = replicate length (number % 256)

-- after a pull of so many bytes
abbrev pub pulled : ℕ → LyingInMemory → LyingInMemory
pulled length m = record {
  next = (m.next + 1) % 2 ^ 32;
  given = wrong_page m.next length;
  counts = record m.counts { pulls = min (m.counts.pulls + 1) (2 ^ 64 - 1) };
}

-- after a push, which is lost
abbrev pub pushed : LyingInMemory → LyingInMemory
pushed m =
    record m { counts = record m.counts { pushes = min (m.counts.pushes + 1) (2 ^ 64 - 1) } }
