-- Calls that are counted, some of which fail.
use Rattle.std.specs.Prelude.{ℕ, ◌+◌, ◌-◌, ◌^◌, ◌==◌, Bool, List, min}
use Rattle.std.specs.List.{list_any}

-- The number of the next call, counted from 1. It stays at the end of its type, far behind each
-- number of a list.
abbrev pub next_call : ℕ → ℕ
next_call calls = min (calls + 1) (2 ^ 64 - 1)

-- one fault more, likewise
abbrev pub fault_more : ℕ → ℕ
fault_more faults = min (faults + 1) (2 ^ 64 - 1)

-- the call of this number is to fail
abbrev pub is_failing : List ℕ → ℕ → Bool
is_failing fails call = list_any (λ n. n == call) fails
