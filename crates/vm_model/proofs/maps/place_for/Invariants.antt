use Rattle.vm_model.proofs.Machines.Regions.{GoesBehind}
use Rattle.vm_model.proofs.maps.place_for.Given as goal

abbrev pub invariant-loop-place : goal.invariant-loop-place
invariant-loop-place l = GoesBehind l.region l.regions l.place
