use Rattle.std.proofs.Common.{◌≡◌, ℕ, ◌<◌, ◌≤◌}
use Rattle.local_cache.specs.Arena.{locks_of}
use Rattle.pvm_core.proofs.locks.is_any_locked.Given as goal

abbrev pub invariant-loop-page : goal.invariant-loop-page
invariant-loop-page l = (page : ℕ) → l.range.first.0 ≤ page → page < l.page → locks_of l.caches l.range.cache.0 page ≡ 0
