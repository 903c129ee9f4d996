use Rattle.std.proofs.Common.{◌≡◌, ◌≤◌, length}
use Rattle.line_service.specs.Gathering.{Grew, with_gathered}
use Rattle.line_service.proofs.gathered.Gathered.flush.Given as goal

abbrev pub invariant-loop-self : goal.invariant-loop-self
invariant-loop-self g l =
    let K = g.K.Sink in
    let bytes = l.self-inside.bytes.items in
    record {
      faults : K.faults l.fn.sink ≤ K.faults l.sink;
      grew : Grew (K.written l.fn.sink) (K.written l.sink);
      kept : with_gathered (K.written l.sink) bytes ≡ with_gathered (K.written l.fn.sink) l.fn.self;
    }

abbrev pub decreases-loop-self : goal.decreases-loop-self
decreases-loop-self g l = length l.self-inside.bytes.items
