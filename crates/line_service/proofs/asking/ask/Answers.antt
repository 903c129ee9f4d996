use Rattle.std.proofs.Common.{◌<◌, None, Some, length, refl, arith}
use Rattle.std.proofs.lemmas.Result.{err_from_is_err_and}
use Rattle.line_service.proofs.Asked.{delivery_first, none_more, pause_more, turn_is}
use Rattle.line_service.proofs.Going.{goes_none}
use Rattle.line_service.proofs.TryingOthers.{ill, well}
use Rattle.line_service.proofs.asking.ask.Goals as goal

pub loop-dispatcher-init : goal.loop-dispatcher-init
loop-dispatcher-init g c = record {
  able = c.requires.able;
  away = c.requires.away;
  made = omega arith;
  fits = λ more h. h;
  goes = λ known issued. goes_none g.V.Service.semantics g.R.Replies.puts known _ _;
}

pub loop-dispatcher-preserved : goal.loop-dispatcher-preserved
loop-dispatcher-preserved g c =
    let said = c.in_ok-deliver_at-in-Some.ensures in
    let waits = c.loop-dispatcher.waits in
    let count = c.len-in-loop-dispatcher.ensures.count in
    let some : 0 < length waits = omega (arith, c.loop-dispatcher-test.true, c.len.ensures.count) in
    record {
      able = said.able;
      away = said.away;
      made = omega (arith, said.made, c.loop-dispatcher.invariant.made);
      fits = λ more h. said.fits more (c.loop-dispatcher.invariant.fits more h);
      goes = λ known issued.
          delivery_first g.V.Service g.R.Replies.puts g.R.Replies.fails known _ _ _ _ waits issued well c.deliver_at.new.waits c.in-Some.place some
          (turn_is waits _ _ c.len-in-loop-dispatcher.result (Some c.in-Some.place) count c.in-Some.ensures.told c.in-Some.ensures.left) said.delivered (c.loop-dispatcher.invariant.goes known issued);
    }

pub returns-in_err-deliver_at-in-Some-clause-goes : goal.returns-in_err-deliver_at-in-Some-clause-goes
returns-in_err-deliver_at-in-Some-clause-goes g c = λ known issued.
    let said = c.in_err-deliver_at-in-Some.ensures in
    let waits = c.loop-dispatcher.waits in
    let count = c.len-in-loop-dispatcher.ensures.count in
    let some : 0 < length waits = omega (arith, c.loop-dispatcher-test.true, c.len.ensures.count) in
    let r = err_from_is_err_and c.from_residual.result c.from_residual.ensures.1 in
    rw r.1 (delivery_first g.V.Service g.R.Replies.puts g.R.Replies.fails known _ _ _ _ waits issued ill c.deliver_at.new.waits c.in-Some.place some
    (turn_is waits _ _ c.len-in-loop-dispatcher.result (Some c.in-Some.place) count c.in-Some.ensures.told c.in-Some.ensures.left) said.delivered (c.loop-dispatcher.invariant.goes known issued))

pub returns-in-None-clause-goes : goal.returns-in-None-clause-goes
returns-in-None-clause-goes g c = λ known issued.
    let waits = c.loop-dispatcher.waits in
    let count = c.len-in-loop-dispatcher.ensures.count in
    let some : 0 < length waits = omega (arith, c.loop-dispatcher-test.true, c.len.ensures.count) in
    pause_more g.V.Service g.R.Replies.puts g.R.Replies.fails known _ _ _ _ waits issued some refl refl refl
    (turn_is waits _ _ c.len-in-loop-dispatcher.result None count c.in-None.ensures.told c.in-None.ensures.left) (c.loop-dispatcher.invariant.goes known issued)

pub returns-clause-goes : goal.returns-clause-goes
returns-clause-goes g c = λ known issued.
    none_more g.V.Service g.R.Replies.puts known _ _ _ c.loop-dispatcher.waits issued (omega (arith, c.loop-dispatcher-test.false, c.len.ensures.count)) (c.loop-dispatcher.invariant.goes known issued)
