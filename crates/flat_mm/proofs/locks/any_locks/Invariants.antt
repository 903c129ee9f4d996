use Rattle.std.proofs.Common.{◌≡◌, drop}
use Rattle.std.specs.List.{list_any}
use Rattle.vm_model.specs.Machine.{locks}
use Rattle.flat_mm.proofs.locks.any_locks.Given as goal

abbrev pub invariant-loop-place : goal.invariant-loop-place
invariant-loop-place l = list_any (locks l.cache.0 l.page) (drop l.place l.regions.regions) ≡ list_any (locks l.cache.0 l.page) l.regions.regions
