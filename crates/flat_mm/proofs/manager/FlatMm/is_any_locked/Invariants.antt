use Rattle.std.proofs.Common.{◌≡◌, false}
use Rattle.vm_model.specs.Answering.{is_any_locked}
use Rattle.flat_mm.specs.Manager.{machine_in}
use Rattle.flat_mm.proofs.manager.FlatMm.is_any_locked.Given as goal

-- none of the pages that were passed is locked
abbrev pub invariant-loop-i : goal.invariant-loop-i
invariant-loop-i l = is_any_locked (machine_in l.self) l.cache l.first.0 l.i ≡ false
