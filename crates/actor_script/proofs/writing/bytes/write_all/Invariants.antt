use Rattle.std.proofs.Common.{◌≤◌, ◌-◌, take, length}
use Rattle.actor_script.specs.Writing.{Writes}
use Rattle.actor_script.proofs.writing.bytes.write_all.Given as goal

abbrev pub invariant-loop-at : goal.invariant-loop-at
invariant-loop-at g l =
    let K = g.K.Sink in
    record {
      within : l.at ≤ length l.bytes;
      faults : K.faults l.fn.sink ≤ K.faults l.sink;
      done : Writes (K.written l.fn.sink) (K.written l.sink) (take l.at l.bytes);
    }

abbrev pub decreases-loop-at : goal.decreases-loop-at
decreases-loop-at g l = length l.bytes - l.at
