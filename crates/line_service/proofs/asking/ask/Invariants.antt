use Rattle.std.proofs.Common.{ℕ, ◌≤◌, ◌+◌, length, true}
use Rattle.line_service.specs.Going.{Goes, Known, scene_of, stand_at}
use Rattle.line_service.specs.Parking.{AreAway, CanServe, lines_parked, made_with}
use Rattle.line_service.specs.Putting.{PutsAll}
use Rattle.line_service.proofs.asking.ask.Given as goal

abbrev pub invariant-loop-dispatcher : goal.invariant-loop-dispatcher
invariant-loop-dispatcher g l =
    let V = g.V.Service in
    let M = g.M.Mapper in
    let R = g.R.Replies in
    let D = g.D.Dispatcher in
    let start = scene_of V M l.fn.service l.fn.mapper (D.turns l.fn.dispatcher) (l.fn.replies, l.fn.sink) in
    let here = scene_of V M l.service l.mapper (D.turns l.dispatcher) (l.replies, l.sink) in
    record {
      able : CanServe V M l.service l.mapper l.waits;
      away : AreAway V l.service l.waits;
      made : made_with V l.service l.waits ≤ made_with V l.fn.service l.fn.waits;
      fits : (more : ℕ) → R.fits l.fn.replies (length l.fn.waits + more) → R.fits l.replies (length l.waits + more);
      goes : (known : Known V.semantics.Read) (issued : ℕ) → Goes V.semantics (PutsAll R.puts) known start here
          (stand_at start (lines_parked V l.fn.waits) issued true) (stand_at here (lines_parked V l.waits) issued true);
    }

abbrev pub decreases-loop-dispatcher : goal.decreases-loop-dispatcher
decreases-loop-dispatcher g l = length l.waits
