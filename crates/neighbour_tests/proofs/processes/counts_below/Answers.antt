use Rattle.std.proofs.Common.{refl, sym, ap, ◌∙◌}
use Rattle.vm_model.specs.Machine.{Machine}
use Rattle.neighbour_tests.proofs.processes.counts_below.Goals as goal

pub answer_lines-requires-clause-can : goal.answer_lines-requires-clause-can
answer_lines-requires-clause-can g c =
    let starts = c.in_ok-manager.ensures.machine _ in
    c.new-processes.ensures.can _ _
    (record {
      valid = c.in_ok-manager.ensures.valid _;
      unlimited = refl;
      fits = c.in_ok-mapper.ensures ∙ sym (ap (λ (m : Machine). m.page_bytes) starts);
      page = ap (λ (m : Machine). m.page_bytes) starts;
      caches = ap (λ (m : Machine). m.caches) starts;
      actors = ap (λ (m : Machine). m.actors) starts;
    })
