use Rattle.std.proofs.Common.{◌≡◌, ◌<◌, true, false, length, ap, rules, arith}
use Rattle.std.specs.Prelude.{not, remove}
use Rattle.std.proofs.lemmas.Result.{err_from_is_err_and}
use Rattle.line_service.proofs.Places.{some_at, without_length}
use Rattle.line_service.proofs.TryingOthers.{away_end, away_left, away_taken, tried_cut, tried_end, tried_left, tried_start, tried_taken}
use Rattle.line_service.proofs.delivering.try_others.Goals as goal

pub loop-place-init : goal.loop-place-init
loop-place-init g c = record {
  able = c.requires.able;
  made = omega arith;
  fits = λ more h. h;
  within = omega arith;
  fewer = omega arith;
  away = tt;
  tried = tried_start g.V.Service g.R.Replies.puts _ c.args.waits.now;
}

pub returns-in_err-try_one-clause-tried : goal.returns-in_err-try_one-clause-tried
returns-in_err-try_one-clause-tried g c =
    let r = err_from_is_err_and c.from_residual.result c.from_residual.ensures.1 in
    let waits = c.loop-place.waits in
    let here = some_at waits c.loop-place.place (omega (arith, c.loop-place-test.true, c.len.ensures.count)) in
    let said = c.in_err-try_one.ensures in
    rw r.1 (tried_cut g.V.Service g.R.Replies.puts g.R.Replies.fails _ _ _ c.args.waits.now waits c.loop-place.place here.0 c.loop-place.invariant.tried here.1 c.try_one.new.waits said.waits (said.tried here.0 here.1))

pub loop-place-preserved-then-not-branch : goal.loop-place-preserved-then-not-branch
loop-place-preserved-then-not-branch g c =
    let V = g.V.Service in
    let waits = c.loop-place.waits in
    let place = c.loop-place.place in
    let here = some_at waits place (omega (arith, c.loop-place-test.true, c.len.ensures.count)) in
    let said = c.in_ok-try_one.ensures in
    let so : c.in_ok-try_one.field-0 ≡ false = search rules in
    let same : c.try_one.new.waits ≡ waits = rw so at said.waits in
    record {
      able = said.able;
      made = omega (arith, said.made, c.loop-place.invariant.made);
      fits = λ more h. said.fits more (c.loop-place.invariant.fits more h);
      within = omega (arith, ap length same, c.loop-place-test.true, c.len.ensures.count);
      fewer = omega (arith, ap length same, c.loop-place.invariant.fewer);
      away = away_left V c.loop-place.service c.try_one.new.service waits c.try_one.new.waits place here.0 here.1 same said.no_more_ready (said.away here.0 here.1 (ap not so)) c.loop-place.invariant.away;
      tried = tried_left V g.R.Replies.puts g.R.Replies.fails _ _ _ c.args.waits.now waits place here.0 c.loop-place.invariant.tried here.1 c.try_one.new.waits same (rw so at said.tried here.0 here.1);
    }

pub loop-place-preserved : goal.loop-place-preserved
loop-place-preserved g c =
    let V = g.V.Service in
    let waits = c.loop-place.waits in
    let place = c.loop-place.place in
    let below : place < length waits = omega (arith, c.loop-place-test.true, c.len.ensures.count) in
    let here = some_at waits place below in
    let said = c.in_ok-try_one.ensures in
    let so : c.in_ok-try_one.field-0 ≡ true = search rules in
    let out : c.try_one.new.waits ≡ remove waits place = rw so at said.waits in
    let count = without_length waits place below in
    record {
      able = said.able;
      made = omega (arith, said.made, c.loop-place.invariant.made);
      fits = λ more h. said.fits more (c.loop-place.invariant.fits more h);
      within = omega (arith, ap length out, count, below);
      fewer = omega (arith, ap length out, count, c.loop-place.invariant.fewer);
      away = away_taken V c.loop-place.service c.try_one.new.service waits c.try_one.new.waits place out said.no_more_ready c.loop-place.invariant.away;
      tried = tried_taken V g.R.Replies.puts g.R.Replies.fails _ _ _ c.args.waits.now waits place here.0 c.loop-place.invariant.tried here.1 c.try_one.new.waits out (rw so at said.tried here.0 here.1);
    }

pub returns-clause-tried : goal.returns-clause-tried
returns-clause-tried g c = tried_end g.V.Service g.R.Replies.puts _ _ c.args.waits.now c.loop-place.waits c.loop-place.place c.loop-place.invariant.tried (omega (arith, c.loop-place-test.false, c.len.ensures.count))

pub returns-clause-away : goal.returns-clause-away
returns-clause-away g c = away_end g.V.Service c.loop-place.service c.loop-place.waits c.loop-place.place (omega (arith, c.loop-place-test.false, c.len.ensures.count)) c.loop-place.invariant.away
