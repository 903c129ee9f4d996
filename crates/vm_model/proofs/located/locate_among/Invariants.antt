use Rattle.std.proofs.Common.{◌≡◌, None, map, take}
use Rattle.vm_model.specs.Regions.{region_among}
use Rattle.vm_model.specs.Seen.{region_seen}
use Rattle.vm_model.proofs.located.locate_among.Given as goal

-- no region that was passed has the number
abbrev pub invariant-loop-place : goal.invariant-loop-place
invariant-loop-place l = region_among l.number.0 (map region_seen (take l.place l.regions)) ≡ None
