use Rattle.std.proofs.Common.{◌≡◌, ◌+◌, ℕ, count_by, take}
use Rattle.vm_model.specs.Machine.{locks}
use Rattle.local_cache.specs.Arena.{locks_of}
use Rattle.pvm_core.specs.Holding.{HoldsLocked, KeepsPages}
use Rattle.pvm_core.proofs.page_locks.let_all_go.Given as goal

abbrev pub invariant-loop-place : goal.invariant-loop-place
invariant-loop-place l = record {
  pages : KeepsPages l.fn.caches l.caches l.fn.store l.store;
  held : HoldsLocked l.caches l.store;
  locks : (cache page : ℕ) → locks_of l.fn.caches cache page ≡ locks_of l.caches cache page + count_by (locks cache page) (take l.place l.regions.regions);
}
