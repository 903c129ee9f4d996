use Rattle.std.proofs.Common.{ℕ, ◌+◌, ◌≤◌, ◌++◌, ◌-◌, List, length, take}
use Rattle.line_service.specs.Ending.{Told}
use Rattle.line_service.specs.Gathering.{Grew, with_gathered}
use Rattle.line_service.specs.Going.{Scene, scene_of}
use Rattle.line_service.specs.Underway.{CanAnswer, Underway}
use Rattle.line_service.proofs.feeding.feed.Given as goal

abbrev pub invariant-loop-line : goal.invariant-loop-line
invariant-loop-line g l =
    let V = g.V.Service in
    let M = g.M.Mapper in
    let D = g.D.Dispatcher in
    let K = g.K.Sink in
    record {
      within : l.from ≤ length l.bytes;
      able : CanAnswer V M l.progress.number l.service l.mapper l.waits;
      few : l.progress.number ≤ l.fn.progress.number + l.from;
      faults : K.faults l.fn.sink ≤ K.faults l.sink;
      grew : Grew (K.written l.fn.sink) (K.written l.sink);
      underway : (before : Scene V.semantics Told) (script : List ℕ) →
          Underway V before (scene_of V M l.fn.service l.fn.mapper (D.turns l.fn.dispatcher) (K.written l.fn.sink)) l.fn.waits l.fn.progress script →
          Underway V before (scene_of V M l.service l.mapper (D.turns l.dispatcher) (with_gathered (K.written l.sink) l.gathered)) l.waits l.progress (script ++ take l.from l.bytes);
    }

abbrev pub decreases-loop-line : goal.decreases-loop-line
decreases-loop-line g l = length l.bytes - l.from
