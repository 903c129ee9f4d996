use Rattle.std.proofs.Common.{◌≡◌, ℕ, ◌≤◌, ◌+◌, List, length}
use Rattle.std.specs.Prelude.{option_and_then, option_map, slice_get}
use Rattle.line_service.specs.Going.{Goes, IsScript, Known, scene_of, stand_at}
use Rattle.line_service.specs.Parking.{AreAway, CanServe, is_none_parked, lines_parked, made_with}
use Rattle.line_service.specs.Putting.{PutsAll}
use Rattle.line_service.proofs.asking.wait_for.Given as goal

abbrev pub invariant-loop-actor : goal.invariant-loop-actor
invariant-loop-actor g l =
    let V = g.V.Service in
    let M = g.M.Mapper in
    let R = g.R.Replies in
    let D = g.D.Dispatcher in
    let start = scene_of V M l.fn.service l.fn.mapper (D.turns l.fn.dispatcher) (l.fn.replies, l.fn.sink) in
    let here = scene_of V M l.service l.mapper (D.turns l.dispatcher) (l.replies, l.sink) in
    record {
      able : CanServe V M l.service l.mapper l.waits;
      away : AreAway V l.service l.waits;
      made : made_with V l.service l.waits ≤ made_with V l.fn.service l.fn.waits;
      fits : (more : ℕ) → R.fits l.fn.replies (length l.fn.waits + more) → R.fits l.replies (length l.waits + more);
      fewer : length l.waits ≤ length l.fn.waits;
      goes : (known : Known V.semantics.Read) (issued : ℕ)
          → ((script : List V.semantics.Read) → IsScript known script → option_and_then V.semantics.actor_of (slice_get script issued) ≡ option_map (λ a. a.0) l.actor)
          → Goes V.semantics (PutsAll R.puts) known start here
          (stand_at start (lines_parked V l.fn.waits) issued (is_none_parked l.fn.waits)) (stand_at here (lines_parked V l.waits) issued (is_none_parked l.fn.waits));
    }

abbrev pub decreases-loop-actor : goal.decreases-loop-actor
decreases-loop-actor g l = length l.waits
