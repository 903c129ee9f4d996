use Rattle.std.proofs.Common.{◌≡◌, ◌≤◌, ◌+◌, ◌*◌, ℕ, length, map}
use Rattle.vm_model.specs.Events.{opening}
use Rattle.actor_script.specs.Generator.{lines_from}
use Rattle.line_service.specs.Going.{Goes, scene_of, stand_at}
use Rattle.line_service.specs.Going.Known.{whole}
use Rattle.line_service.specs.Parking.{AreAway, CanServe, is_none_parked, lines_parked, made_with}
use Rattle.line_service.specs.Putting.{PutsAll}
use Rattle.line_service.specs.Serving.{answer_budget}
use Rattle.line_service.proofs.Given.{GivenTo}
use Rattle.line_service.proofs.made.answer_made.Given as goal

abbrev pub invariant-loop-done : goal.invariant-loop-done
invariant-loop-done g l =
    let V = g.V.Service in
    let M = g.M.Mapper in
    let D = g.D.Dispatcher in
    let R = g.R.Replies in
    let start = scene_of V M l.fn.service l.fn.mapper (D.turns l.fn.dispatcher) (l.fn.replies, l.fn.sink) in
    let here = scene_of V M l.service l.mapper (D.turns l.dispatcher) (l.replies, l.sink) in
    record {
      able : CanServe V M l.service l.mapper l.waits;
      away : AreAway V l.service l.waits;
      made : made_with V l.service l.waits ≤ answer_budget * (l.done + 1);
      fits : (more : ℕ) → l.done + more ≡ l.fn.count → R.fits l.replies (length l.waits + more);
      given : GivenTo l.fn.lines l.lines l.done;
      goes : Goes V.semantics (PutsAll R.puts) (whole (map V.read (lines_from l.fn.lines l.fn.count))) start here
          (opening V.semantics start.state) (stand_at here (lines_parked V l.waits) l.done (is_none_parked l.waits));
    }
