use Rattle.std.proofs.Common.{◌≡◌, ◌+◌, ◌-◌}
use Rattle.local_cache.specs.Arena.{locked_count}
use Rattle.pvm_core.specs.Holding.{unlocked_in}
use Rattle.pvm_core.proofs.Locking.Extents.{extent}
use Rattle.pvm_core.proofs.page_locks.passes_limit.Given as goal

abbrev pub invariant-loop-page : goal.invariant-loop-page
invariant-loop-page l = l.locked ≡ locked_count l.caches + unlocked_in l.caches (extent l.range.cache l.range.first.0 (l.page - l.range.first.0))
