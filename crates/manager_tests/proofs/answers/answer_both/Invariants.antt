use Rattle.std.proofs.Common.{Some, ◌≡◌, ◌+◌, ◌*◌, ◌≤◌}
use Rattle.vm_model.specs.declared.limits.TheConstants.{LIVE_PAGES}
use Rattle.vm_model.specs.Machine.{live_pages}
use Rattle.vm_port.specs.Mapping.{held_of}
use Rattle.manager_tests.proofs.answers.answer_both.Given as goal

abbrev pub invariant-loop-step : goal.invariant-loop-step
invariant-loop-step g l =
    let G = g.G.Gmi in
    let machine = G.machine l.gmi (Some (held_of l.mapper)) in
    record {
      valid : G.valid l.gmi (Some (held_of l.mapper));
      made : G.made l.gmi ≤ G.made l.fn.gmi + (l.step-counter + 1) * 268435456;
      fits : l.mapper.page_bytes ≡ machine.page_bytes;
      live : live_pages machine ≤ LIVE_PAGES;
    }
