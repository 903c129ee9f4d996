use Rattle.std.proofs.Common.{◌≡◌, map, drop}
use Rattle.std.specs.Prelude.{option_map}
use Rattle.vm_model.specs.Machine.{cache_named}
use Rattle.vm_model.specs.Seen.{cache_seen}
use Rattle.vm_model.proofs.caches.is_named.Given as goal

-- among the caches passed the segment names none
abbrev pub invariant-loop-cache : goal.invariant-loop-cache
invariant-loop-cache l = cache_named (map (option_map cache_seen) l.caches) l.seg.0 ≡ cache_named (map (option_map cache_seen) (drop l.cache-index l.caches)) l.seg.0
