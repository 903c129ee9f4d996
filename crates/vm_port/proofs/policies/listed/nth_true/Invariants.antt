use Rattle.std.proofs.Common.{◌≡◌, ◌<◌, length, get_or, drop}
use Rattle.vm_port.specs.Choosing.{true_places}
use Rattle.vm_port.proofs.policies.listed.nth_true.Given as goal

abbrev pub invariant-loop-place : goal.invariant-loop-place
invariant-loop-place l = (l.left < length (true_places l.place (drop l.place l.may)))
    × (get_or (true_places l.place (drop l.place l.may)) l.left 0 ≡ get_or (true_places 0 l.may) l.number 0)
