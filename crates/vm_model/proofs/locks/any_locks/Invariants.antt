use Rattle.std.proofs.Common.{◌≡◌, drop, map}
use Rattle.std.specs.List.{list_any}
use Rattle.vm_model.specs.Machine.{locks}
use Rattle.vm_model.specs.Seen.{region_seen}
use Rattle.vm_model.proofs.locks.any_locks.Given as goal

abbrev pub invariant-loop-region : goal.invariant-loop-region
invariant-loop-region l = list_any (locks l.cache.0 l.page) (map region_seen (drop l.region-index l.regions)) ≡ list_any (locks l.cache.0 l.page) (map region_seen l.regions)
