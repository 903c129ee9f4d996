use Rattle.std.proofs.Common.{◌-◌}
use Rattle.pvm_core.specs.Holding.{HoldsLocked, KeepsPages, LocksMore}
use Rattle.pvm_core.proofs.Locking.Extents.{extent}
use Rattle.pvm_core.proofs.page_locks.let_go.Given as goal

abbrev pub invariant-loop-page : goal.invariant-loop-page
invariant-loop-page l = record {
  pages : KeepsPages l.fn.caches l.caches l.fn.store l.store;
  held : HoldsLocked l.caches l.store;
  locks : LocksMore (extent l.range.cache l.range.first.0 (l.page - l.range.first.0)) l.caches l.fn.caches;
}
