use Rattle.std.proofs.Common.{◌≡◌, drop}
use Rattle.std.specs.List.{list_any}
use Rattle.flat_mm.specs.Frames.{is_framed_of}
use Rattle.flat_mm.proofs.store.any_of.Given as goal

abbrev pub invariant-loop-cache : goal.invariant-loop-cache
invariant-loop-cache l = list_any (is_framed_of l.seg) (drop l.cache-index l.caches) ≡ list_any (is_framed_of l.seg) l.caches
