-- What is said of single pages of caches, which is the same of each page of a stretch.
use Rattle.std.specs.Prelude.{ℕ, zero, suc, Bool, option_map, is_some, unwrap_or}
use Rattle.std.specs.Ordering.{nat_cmp}
use Rattle.std.specs.FinMap.{FinMap}
use Rattle.std.specs.FinMap as map
use Rattle.stretches.specs.declared.says.Says.{Ghosts}
use Rattle.local_cache.specs.declared.page_marks.Granted.{Granted}
use Rattle.local_cache.specs.declared.page_marks.LockCount.{LockCount}

-- how a grant goes on
abbrev pub granted_says : Ghosts Granted
granted_says = record { after = λ v by. v; lasts = λ v by. Unit {0} }

-- how a count of locks goes on
abbrev pub locks_say : Ghosts LockCount
locks_say = record { after = λ v by. v; lasts = λ v by. Unit {0} }

-- whether the page of this number is granted
abbrev pub granted_at : FinMap nat_cmp Granted → ℕ → Bool
granted_at m k = is_some (map.get m k)

-- how many locks the page of this number has
abbrev pub locks_at : FinMap nat_cmp LockCount → ℕ → ℕ
locks_at m k = unwrap_or (option_map (λ v. v.0) (map.get m k)) 0

-- the map with so many locks on the page of this number; there are no counts of 0
unfoldable pub with_count : FinMap nat_cmp LockCount → ℕ → ℕ → FinMap nat_cmp LockCount
with_count m k zero = map.remove m k
with_count m k (suc n) = map.insert m k (record { 0 = suc n })
