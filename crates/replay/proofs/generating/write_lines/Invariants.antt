use Rattle.std.proofs.Common.{◌≤◌}
use Rattle.actor_script.specs.Generator.{beginning}
use Rattle.line_service.specs.Gathering.{Grew, with_gathered}
use Rattle.replay.proofs.Made.{Written}
use Rattle.replay.proofs.generating.write_lines.Given as goal

abbrev pub invariant-loop-line : goal.invariant-loop-line
invariant-loop-line g l =
    let K = g.K.Sink in
    record {
      faults : K.faults l.fn.sink ≤ K.faults l.sink;
      grew : Grew (K.written l.fn.sink) (K.written l.sink);
      written : Written (beginning l.fn.script.number) l.lines l._line (K.written l.fn.sink) (with_gathered (K.written l.sink) l.gathered);
    }
