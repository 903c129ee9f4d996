use Rattle.std.proofs.Common.{None, sym, ap, ◌∙◌}
use Rattle.vm_model.specs.Machine.{Machine}
use Rattle.manager_tests.proofs.answers.answers_as_plain_pages.Goals as goal

pub answer_both-requires-clause-valid : goal.answer_both-requires-clause-valid
answer_both-requires-clause-valid g c = c.in_ok-gmi.ensures.valid _

pub answer_both-requires-clause-fits : goal.answer_both-requires-clause-fits
answer_both-requires-clause-fits g c = c.in_ok-mapper.ensures ∙ sym (ap (λ (m : Machine). m.page_bytes) (c.in_ok-gmi.ensures.machine None))
