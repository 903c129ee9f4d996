use Rattle.std.proofs.Common.{◌+◌, ◌==◌, ◌∙◌, Some, length, ap, refl}
use Rattle.std.specs.Prelude.{option_and_then}
use Rattle.std.proofs.lemmas.Result.{err_from_is_err_and}
use Rattle.vm_ids.specs.declared.access.Parked.{Parked}
use Rattle.line_service.specs.Parking.{AreAway}
use Rattle.line_service.proofs.Finding.{none_found}
use Rattle.line_service.proofs.OneLine.{away_more, is_access, line_parked, line_put, moved, ok_so, room_for, serves_more, serves_still}
use Rattle.line_service.proofs.Parking.{still_away}
use Rattle.line_service.proofs.answering.answer_access.Goals as goal

pub returns-in_err-wait_for-clause-goes : goal.returns-in_err-wait_for-clause-goes
returns-in_err-wait_for-clause-goes g c = λ known issued e so.
    let r = err_from_is_err_and c.from_residual.result c.from_residual.ensures.1 in
    rw r.1 (c.in_err-wait_for.ensures.goes known issued (λ script h. ap (option_and_then g.V.Service.semantics.actor_of) (so script h) ∙ c.requires.actor))

pub put-requires : goal.put-requires
put-requires g c =
    let fits = c.requires.fits in
    let left = length c.wait_for.new.waits in
    record { fits = (left + fits.0, moved (g.R.Replies.fits c.wait_for.new.replies) left fits.0 (c.in_ok-wait_for.ensures.fits (fits.0 + 1) fits.1)) }

pub park-requires-clause-few : goal.park-requires-clause-few
park-requires-clause-few g c =
    let said = c.issue.ensures in
    let p : Parked = record { line = c.args.number; actor = c.args.actor; access = c.args.access } in
    let serves = serves_still g.V.Service g.M.Mapper c.wait_for.new.service c.issue.new.self c.wait_for.new.mapper c.issue.new.mapper c.wait_for.new.waits said.able said.still_admits said.still_live c.in_ok-wait_for.ensures.able in
    room_for g.V.Service g.M.Mapper c.issue.new.self c.issue.new.mapper c.wait_for.new.waits p c.in_ok-wait_for.ensures.none serves
    (record { read = c.requires.read; actor = c.requires.actor; admitted = c.in-None.ensures.admitted; alive = c.in-None.ensures.alive }) g.met.V.Service.few

pub park-requires-clause-apart : goal.park-requires-clause-apart
park-requires-clause-apart g c = none_found (λ (p : Parked). p.actor.0 == c.args.actor.0) c.wait_for.new.waits c.in_ok-wait_for.ensures.none

pub returns-in-Some-clause-able : goal.returns-in-Some-clause-able
returns-in-Some-clause-able g c =
    let said = c.issue.ensures in
    serves_still g.V.Service g.M.Mapper c.wait_for.new.service c.issue.new.self c.wait_for.new.mapper c.issue.new.mapper c.wait_for.new.waits said.able said.still_admits said.still_live c.in_ok-wait_for.ensures.able

pub returns-in-Some-clause-away : goal.returns-in-Some-clause-away
returns-in-Some-clause-away g c =
    ok_so c.put.result (AreAway g.V.Service c.issue.new.self c.wait_for.new.waits) (still_away g.V.Service c.wait_for.new.service c.issue.new.self c.wait_for.new.waits c.issue.ensures.no_more_ready c.in_ok-wait_for.ensures.away)

pub returns-in-Some-clause-fits : goal.returns-in-Some-clause-fits
returns-in-Some-clause-fits g c = ok_so c.put.result _ (λ more h.
    let left = length c.wait_for.new.waits in
    c.put.ensures.fits (left + more) (moved (g.R.Replies.fits c.wait_for.new.replies) left more (c.in_ok-wait_for.ensures.fits (more + 1) h)))

pub returns-in-Some-clause-goes : goal.returns-in-Some-clause-goes
returns-in-Some-clause-goes g c = λ known issued e so.
    let m = c.in-Some.ensures.answered in
    line_put g.V.Service g.M.Mapper g.R.Replies.puts g.R.Replies.fails known _ _ _ _ c.args.waits.now c.wait_for.new.waits issued (Some c.args.actor.0) c.wait_for.new.service c.wait_for.new.mapper c.in_ok-wait_for.ensures.fewer c.in_ok-wait_for.ensures.able c.in_ok-wait_for.ensures.none
    (g.V.Service.access_of c.args.actor c.args.access) c.requires.actor so
    (c.in_ok-wait_for.ensures.goes known issued (λ script h. ap (option_and_then g.V.Service.semantics.actor_of) (so script h) ∙ c.requires.actor))
    c.put.result _ c.in-Some.answer m (λ some. m.so) refl c.args.number e c.put.ensures.put c.put.ensures.failed

pub returns-in-None-clause-able : goal.returns-in-None-clause-able
returns-in-None-clause-able g c =
    let said = c.issue.ensures in
    let p : Parked = record { line = c.args.number; actor = c.args.actor; access = c.args.access } in
    let serves = serves_still g.V.Service g.M.Mapper c.wait_for.new.service c.issue.new.self c.wait_for.new.mapper c.issue.new.mapper c.wait_for.new.waits said.able said.still_admits said.still_live c.in_ok-wait_for.ensures.able in
    serves_more g.V.Service g.M.Mapper c.issue.new.self c.issue.new.mapper c.wait_for.new.waits p c.in_ok-wait_for.ensures.none serves
    (record { read = c.requires.read; actor = c.requires.actor; admitted = c.in-None.ensures.admitted; alive = c.in-None.ensures.alive }) c.park.new.self c.park.ensures

pub returns-in-None-clause-away : goal.returns-in-None-clause-away
returns-in-None-clause-away g c =
    let p : Parked = record { line = c.args.number; actor = c.args.actor; access = c.args.access } in
    away_more g.V.Service g.M.Mapper c.wait_for.new.service c.issue.new.self c.wait_for.new.waits c.park.new.self p c.park.ensures c.issue.ensures.no_more_ready c.in_ok-wait_for.ensures.away c.in-None.ensures.not_ready

pub returns-in-None-clause-goes : goal.returns-in-None-clause-goes
returns-in-None-clause-goes g c = λ known issued e so.
    let p : Parked = record { line = c.args.number; actor = c.args.actor; access = c.args.access } in
    line_parked g.V.Service g.M.Mapper g.R.Replies.puts g.R.Replies.fails known _ _ _ _ c.args.waits.now c.wait_for.new.waits issued (Some c.args.actor.0) c.wait_for.new.service c.wait_for.new.mapper c.in_ok-wait_for.ensures.fewer c.in_ok-wait_for.ensures.able c.in_ok-wait_for.ensures.none
    (g.V.Service.access_of c.args.actor c.args.access) c.requires.actor so
    (c.in_ok-wait_for.ensures.goes known issued (λ script h. ap (option_and_then g.V.Service.semantics.actor_of) (so script h) ∙ c.requires.actor))
    p c.park.new.self c.park.ensures e refl (is_access _ _ c.requires.actor) c.in-None.ensures.waits refl refl
