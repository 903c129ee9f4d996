use Rattle.std.proofs.Common.{◌≡◌, None, take}
use Rattle.vm_model.specs.Regions.{region_with}
use Rattle.vm_model.specs.Seen.{actors_seen}
use Rattle.vm_model.proofs.located.locate.Given as goal

-- no actor that was passed has a region with the number
abbrev pub invariant-loop-index : goal.invariant-loop-index
invariant-loop-index l = region_with l.number.0 (actors_seen (take l.index l.actor-items)) ≡ None
