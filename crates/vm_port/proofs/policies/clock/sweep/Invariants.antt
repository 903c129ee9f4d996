use Rattle.std.proofs.Common.{◌≡◌, ◌⊎◌, ℕ, ◌<◌, ◌≤◌, false, Some}
use Rattle.std.specs.Prelude.{slice_get}
use Rattle.vm_port.specs.Choosing.{IsUnmarked}
use Rattle.vm_port.proofs.policies.clock.sweep.Given as goal

abbrev pub invariant-loop-place : goal.invariant-loop-place
invariant-loop-place l = ((k : ℕ) → l.from ≤ k → k < l.place → IsUnmarked l.may l.initial.referenced k → ⊥)
    × ((k : ℕ) → l.from ≤ k → k < l.place → slice_get l.referenced k ≡ Some false)
    × ((k : ℕ) → (k < l.from) ⊎ (l.place ≤ k) → slice_get l.referenced k ≡ slice_get l.initial.referenced k)
