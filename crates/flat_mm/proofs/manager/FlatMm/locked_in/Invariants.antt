use Rattle.std.proofs.Common.{◌≡◌}
use Rattle.std.specs.Prelude.{count_by}
use Rattle.std.specs.List.{range_with_len}
use Rattle.vm_model.specs.Machine.{is_locked_page}
use Rattle.flat_mm.specs.Manager.{machine_in}
use Rattle.flat_mm.proofs.manager.FlatMm.locked_in.Given as goal

-- as many of the pages that were passed are locked
abbrev pub invariant-loop-page : goal.invariant-loop-page
invariant-loop-page l = l.locked ≡ count_by (is_locked_page (machine_in l.self) l.cache.0) (range_with_len 0 l.page)
