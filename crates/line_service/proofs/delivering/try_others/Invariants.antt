use Rattle.std.proofs.Common.{ℕ, ◌≤◌, ◌+◌, ◌-◌, None, length, take}
use Rattle.line_service.specs.Going.{scene_of}
use Rattle.line_service.specs.Parking.{AreAway, CanServe, made_with}
use Rattle.line_service.proofs.TryingOthers.{TriedTo}
use Rattle.line_service.proofs.delivering.try_others.Given as goal

abbrev pub invariant-loop-place : goal.invariant-loop-place
invariant-loop-place g l =
    let V = g.V.Service in
    let M = g.M.Mapper in
    let R = g.R.Replies in
    record {
      able : CanServe V M l.service l.mapper l.waits;
      made : made_with V l.service l.waits ≤ made_with V l.fn.service l.fn.waits;
      fits : (more : ℕ) → R.fits l.fn.replies (length l.fn.waits + more) → R.fits l.replies (length l.waits + more);
      within : l.place ≤ length l.waits;
      fewer : length l.waits ≤ length l.fn.waits;
      away : AreAway V l.service (take l.place l.waits);
      tried : TriedTo V R.puts (scene_of V M l.fn.service l.fn.mapper None (l.fn.replies, l.fn.sink)) (scene_of V M l.service l.mapper None (l.replies, l.sink)) l.fn.waits l.waits l.place;
    }

abbrev pub decreases-loop-place : goal.decreases-loop-place
decreases-loop-place g l = length l.waits - l.place
