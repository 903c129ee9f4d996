use Rattle.std.proofs.Common.{◌≡◌, drop}
use Rattle.std.specs.List.{position_from}
use Rattle.seg_manager.specs.Inner.{leaves}
use Rattle.seg_manager.proofs.tables.first_leaving.Given as goal

abbrev pub invariant-loop-place : goal.invariant-loop-place
invariant-loop-place l = position_from (leaves l.leaving) l.place (drop l.place l.regions) ≡ position_from (leaves l.leaving) 0 l.regions
