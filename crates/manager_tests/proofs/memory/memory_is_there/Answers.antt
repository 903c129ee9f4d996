use Rattle.std.proofs.Common.{None, sym, ap, ◌∙◌}
use Rattle.vm_model.specs.Machine.{Machine}
use Rattle.manager_tests.proofs.memory.memory_is_there.Goals as goal

pub succeeds-requires-clause-valid : goal.succeeds-requires-clause-valid
succeeds-requires-clause-valid g c = c.in_ok-gmi.ensures.valid _

pub succeeds-requires-clause-fits : goal.succeeds-requires-clause-fits
succeeds-requires-clause-fits g c = ap (λ m. m.page_bytes) c.in_ok-mapper.ensures ∙ sym (ap (λ (m : Machine). m.page_bytes) (c.in_ok-gmi.ensures.machine None))
