use Rattle.std.proofs.Common.{◌≡◌, drop}
use Rattle.seg_manager.specs.Inner.{place_from}
use Rattle.seg_manager.proofs.tables.place_for.Given as goal

abbrev pub invariant-loop-place : goal.invariant-loop-place
invariant-loop-place l = place_from l.mapped l.place (drop l.place l.regions) ≡ place_from l.mapped 0 l.regions
