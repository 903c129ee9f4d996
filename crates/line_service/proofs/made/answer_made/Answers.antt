use Rattle.std.proofs.Common.{◌≡◌, ◌+◌, ◌-◌, ◌∙◌, List, ap, length, map, refl, subst, arith}
use Rattle.std.specs.Prelude.{option_and_then, slice_get}
use Rattle.std.proofs.lemmas.Result.{err_from_is_err_and}
use Rattle.actor_script.specs.Generator.{lines_from}
use Rattle.line_service.specs.Going.{scene_of, stand_at}
use Rattle.line_service.specs.Going.Known.{whole}
use Rattle.line_service.specs.Parking.{is_none_parked, lines_parked}
use Rattle.line_service.specs.Putting.{PutsAll, PutsTillLast}
use Rattle.line_service.proofs.Given.{comes_next, given_all, given_more, given_none}
use Rattle.line_service.proofs.Going.{goes_or, goes_then}
use Rattle.line_service.proofs.LastLines.{cut_at, ended_or, goes_start, none_at}
use Rattle.line_service.proofs.TryingOthers.{ill}
use Rattle.line_service.proofs.made.answer_made.Goals as goal

pub loop-done-init : goal.loop-done-init
loop-done-init g c = record {
  able = c.requires.able.serve;
  away = c.requires.able.away;
  made = omega (arith, c.requires.able.made);
  fits = λ more e.
      let room : c.args.count ≡ length c.args.waits.now + more = omega (arith, e, ap length c.requires.none) in
      subst (g.R.Replies.fits c.args.replies.now) room c.requires.fits;
  given = given_none c.args.lines.now;
  goes = goes_start g.V.Service g.R.Replies.puts _ _ c.args.waits.now c.requires.none;
}

pub answer_line-requires-clause-fits : goal.answer_line-requires-clause-fits
answer_line-requires-clause-fits g c =
    let left = c.args.count - (c.loop-done.done + 1) in
    let all : c.loop-done.done + (left + 1) ≡ c.args.count = omega (arith, c.loop-done-test.true) in
    (left, c.loop-done.invariant.fits (left + 1) all)

pub returns-in_err-answer_line-clause-answered : goal.returns-in_err-answer_line-clause-answered
returns-in_err-answer_line-clause-answered g c =
    let V = g.V.Service in
    let M = g.M.Mapper in
    let D = g.D.Dispatcher in
    let R = g.R.Replies in
    let r = err_from_is_err_and c.from_residual.result c.from_residual.ensures.1 in
    let done = c.loop-done.done in
    let reads = map V.read (lines_from c.args.lines.now c.args.count) in
    let start = scene_of V M c.args.service.now c.args.mapper.now (D.turns c.args.dispatcher.now) (c.args.replies.now, c.args.sink.now) in
    let new = scene_of V M c.answer_line.new.service c.answer_line.new.mapper (D.turns c.answer_line.new.dispatcher) (c.answer_line.new.replies, c.answer_line.new.sink) in
    let t = stand_at new (lines_parked V c.answer_line.new.waits) (done + 1) (is_none_parked c.answer_line.new.waits) in
    let comes = comes_next c.args.lines.now c.loop-done.lines done c.loop-done.invariant.given V.read c.next_line-line.new.self c.next_line-line.result c.args.count c.loop-done-test.true c.next_line-line.ensures in
    let more = rw c.as_slice.ensures.bytes at c.in_err-answer_line.ensures.goes in
    rw r.1 (cut_at V (PutsAll R.puts) (PutsTillLast R.puts R.fails) start new reads t refl
    (goes_or V.semantics R.puts R.fails (whole reads) ill _ _ _ _ _ t c.loop-done.invariant.goes (more (whole reads) done refl (λ script same. ap (λ (l : List V.semantics.Read). slice_get l done) same ∙ comes))))

pub loop-done-preserved : goal.loop-done-preserved
loop-done-preserved g c =
    let V = g.V.Service in
    let R = g.R.Replies in
    let said = c.in_ok-answer_line.ensures in
    let done = c.loop-done.done in
    let reads = map V.read (lines_from c.args.lines.now c.args.count) in
    let comes = comes_next c.args.lines.now c.loop-done.lines done c.loop-done.invariant.given V.read c.next_line-line.new.self c.next_line-line.result c.args.count c.loop-done-test.true c.next_line-line.ensures in
    let more = rw c.as_slice.ensures.bytes at said.goes in
    record {
      able = said.able;
      away = said.away;
      made = omega (arith, said.made, c.loop-done.invariant.made);
      fits = λ n e. said.fits n (c.loop-done.invariant.fits (n + 1) (omega (arith, e)));
      given = given_more c.args.lines.now c.loop-done.lines done c.loop-done.invariant.given c.next_line-line.new.self c.next_line-line.result c.next_line-line.ensures;
      goes = goes_then V.semantics R.puts R.fails (whole reads) _ _ _ _ _ _ c.loop-done.invariant.goes (more (whole reads) done refl (λ script same. ap (λ (l : List V.semantics.Read). slice_get l done) same ∙ comes));
    }

pub returns-clause-answered : goal.returns-clause-answered
returns-clause-answered g c =
    let V = g.V.Service in
    let R = g.R.Replies in
    let done = c.loop-done.done in
    let reads = map V.read (lines_from c.args.lines.now c.args.count) in
    let all : done ≡ c.args.count = omega (arith, c.loop-done.auto.done-end, c.loop-done-test.false) in
    let count : done ≡ length reads = all ∙ given_all c.args.lines.now c.loop-done.lines done c.loop-done.invariant.given V.read c.args.count all in
    ended_or V c.wait_for.result (PutsAll R.puts) (PutsTillLast R.puts R.fails) _ _ c.wait_for.new.waits (is_none_parked c.loop-done.waits) done reads count c.wait_for.ensures.none
    (goes_or V.semantics R.puts R.fails (whole reads) c.wait_for.result _ _ _ _ _ _ c.loop-done.invariant.goes
    (c.wait_for.ensures.goes (whole reads) done (λ script same. ap (λ (l : List V.semantics.Read). option_and_then V.semantics.actor_of (slice_get l done)) same ∙ ap (option_and_then V.semantics.actor_of) (none_at reads done count))))
