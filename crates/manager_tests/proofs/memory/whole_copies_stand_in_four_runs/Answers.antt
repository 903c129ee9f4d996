use Rattle.std.proofs.Common.{None, sym, ap, ◌∙◌}
use Rattle.vm_model.specs.Machine.{Machine}
use Rattle.manager_tests.proofs.memory.whole_copies_stand_in_four_runs.Goals as goal

pub copies_whole-requires-clause-valid : goal.copies_whole-requires-clause-valid
copies_whole-requires-clause-valid g c = c.in_ok-gmi.ensures.valid _

pub copies_whole-requires-clause-fits : goal.copies_whole-requires-clause-fits
copies_whole-requires-clause-fits g c = ap (λ m. m.page_bytes) c.in_ok-mapper.ensures ∙ sym (ap (λ (m : Machine). m.page_bytes) (c.in_ok-gmi.ensures.machine None))
