use Rattle.std.proofs.Common.{◌≡◌, ◌≤◌, ◌+◌, ◌-◌, length}
use Rattle.line_service.specs.Going.{scene_of}
use Rattle.line_service.specs.Underway.{CanAnswer}
use Rattle.line_service.proofs.Endings.{Reached}
use Rattle.line_service.proofs.replaying.replay.Given as goal

abbrev pub invariant-pieces : goal.invariant-pieces
invariant-pieces g l =
    let V = g.V.Service in
    let M = g.M.Mapper in
    let D = g.D.Dispatcher in
    let K = g.K.Sink in
    let S = g.S.Source in
    record {
      able : CanAnswer V M l.progress.number l.service l.mapper l.waits;
      piece : length l.piece ≡ 65536;
      number : l.progress.number ≤ l.taken + 1;
      limit : l.taken ≤ 67108864;
      sources : S.faults l.fn.source ≤ S.faults l.source;
      sinks : K.faults l.fn.sink ≤ K.faults l.sink;
      reached : Reached V (scene_of V M l.fn.service l.fn.mapper (D.turns l.fn.dispatcher) (K.written l.fn.sink))
          (scene_of V M l.service l.mapper (D.turns l.dispatcher) (K.written l.sink))
          (S.left l.fn.source) (S.left l.source) l.waits l.progress l.taken;
    }

abbrev pub decreases-pieces : goal.decreases-pieces
decreases-pieces g l = 67108865 - l.taken
