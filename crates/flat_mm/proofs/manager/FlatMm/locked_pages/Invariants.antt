use Rattle.std.proofs.Common.{◌≡◌}
use Rattle.std.specs.Prelude.{sum_by}
use Rattle.std.specs.List.{range_with_len}
use Rattle.vm_model.specs.Machine.{locked_in}
use Rattle.flat_mm.specs.Manager.{machine_in}
use Rattle.flat_mm.proofs.manager.FlatMm.locked_pages.Given as goal

-- as many pages of the caches that were passed are locked
abbrev pub invariant-loop-made : goal.invariant-loop-made
invariant-loop-made l = l.locked ≡ sum_by (locked_in (machine_in l.self)) (range_with_len 1 l.made)
