use Rattle.std.proofs.Common.{◌≡◌}
use Rattle.std.specs.Prelude.{sum_by}
use Rattle.std.specs.List.{range_with_len}
use Rattle.vm_model.specs.Machine.{locked_in}
use Rattle.vm_model.specs.Seen.{machine_seen}
use Rattle.vm_model.proofs.locks.locked_pages.Given as goal

-- as many pages of the caches that were passed are locked
abbrev pub invariant-loop-made : goal.invariant-loop-made
invariant-loop-made l = l.locked ≡ sum_by (locked_in (machine_seen l.tables)) (range_with_len 1 l.made)
