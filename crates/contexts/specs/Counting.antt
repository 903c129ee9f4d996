-- How many regions map each cache. No public clause cites this module.
use Rattle.std.specs.Prelude.{ℕ, ◌==◌, List, Option, Some, None, count_by, slice_index_or, sum_by, if◌then◌else◌}
use Rattle.vm_model.specs.Machine.{Actor, Region}

-- what is counted for a cache; for those behind the last place nothing is
abbrev pub count_of : List ℕ → ℕ → ℕ
count_of counts cache = slice_index_or counts cache 0

-- one for this cache, and none for others
abbrev pub one_for : ℕ → ℕ → ℕ
one_for cache n = if cache == n then 1 else 0

-- how many regions of an actor map a cache
abbrev pub times_in : ℕ → Option Actor → ℕ
times_in cache None = 0
times_in cache (Some regions) = count_by (λ (r : Region). r.cache == cache) regions

-- how many regions of living actors do
abbrev pub times_mapped : ℕ → List (Option Actor) → ℕ
times_mapped cache actors = sum_by (times_in cache) actors
