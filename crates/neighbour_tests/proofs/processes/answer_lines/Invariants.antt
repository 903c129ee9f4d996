use Rattle.std.proofs.Common.{Some, ◌+◌, ◌*◌, ◌≤◌}
use Rattle.vm_port.specs.Mapping.{held_of}
use Rattle.mix_process.specs.Calling.{call_budget, made_by}
use Rattle.mix_process.specs.Tying.{CanCall}
use Rattle.neighbour_tests.proofs.processes.answer_lines.Given as goal

abbrev pub invariant-loop-step : goal.invariant-loop-step
invariant-loop-step g l =
    record {
      can : CanCall g.G.Gmi l.processes (Some (held_of l.mapper)) (Some l.mapper.page_bytes);
      made : made_by g.G.Gmi l.processes ≤ made_by g.G.Gmi l.fn.processes + l.step-counter * call_budget;
    }
