use Rattle.std.proofs.Common.{◌≡◌, drop}
use Rattle.std.specs.List.{list_any}
use Rattle.seg_manager.specs.Seen.{maps}
use Rattle.seg_manager.proofs.tables.is_mapped.Given as goal

abbrev pub invariant-loop-mapped : goal.invariant-loop-mapped
invariant-loop-mapped l = list_any (maps l.cache.0) (drop l.mapped-index l.regions) ≡ list_any (maps l.cache.0) l.regions
