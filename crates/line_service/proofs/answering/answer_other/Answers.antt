use Rattle.std.proofs.Common.{◌+◌, ◌∙◌, None, length, ap, refl}
use Rattle.std.specs.Prelude.{option_and_then}
use Rattle.std.proofs.lemmas.Result.{err_from_is_err_and}
use Rattle.line_service.specs.Parking.{AreAway}
use Rattle.line_service.proofs.OneLine.{away_none, line_put, moved, no_access, none_waits, ok_so, serves_none}
use Rattle.line_service.proofs.answering.answer_other.Goals as goal

pub returns-in_err-wait_for-clause-goes : goal.returns-in_err-wait_for-clause-goes
returns-in_err-wait_for-clause-goes g c = λ known issued e so.
    let r = err_from_is_err_and c.from_residual.result c.from_residual.ensures.1 in
    rw r.1 (c.in_err-wait_for.ensures.goes known issued (λ script h. ap (option_and_then g.V.Service.semantics.actor_of) (so script h) ∙ c.requires.other))

pub put-requires : goal.put-requires
put-requires g c =
    let fits = c.requires.fits in
    let left = length c.wait_for.new.waits in
    record { fits = (left + fits.0, moved (g.R.Replies.fits c.wait_for.new.replies) left fits.0 (c.in_ok-wait_for.ensures.fits (fits.0 + 1) fits.1)) }

pub returns-clause-able : goal.returns-clause-able
returns-clause-able g c =
    serves_none g.V.Service g.M.Mapper c.answer-answer.new.self c.answer-answer.new.mapper c.wait_for.new.waits (none_waits c.wait_for.new.waits c.in_ok-wait_for.ensures.none) c.answer-answer.ensures.able

pub returns-clause-away : goal.returns-clause-away
returns-clause-away g c =
    ok_so c.put.result (AreAway g.V.Service c.answer-answer.new.self c.wait_for.new.waits) (away_none g.V.Service g.M.Mapper c.answer-answer.new.self c.wait_for.new.waits (none_waits c.wait_for.new.waits c.in_ok-wait_for.ensures.none))

pub returns-clause-fits : goal.returns-clause-fits
returns-clause-fits g c = ok_so c.put.result _ (λ more h.
    let left = length c.wait_for.new.waits in
    c.put.ensures.fits (left + more) (moved (g.R.Replies.fits c.wait_for.new.replies) left more (c.in_ok-wait_for.ensures.fits (more + 1) h)))

pub returns-clause-goes : goal.returns-clause-goes
returns-clause-goes g c = λ known issued e so.
    let m = c.answer-answer.ensures.answered in
    line_put g.V.Service g.M.Mapper g.R.Replies.puts g.R.Replies.fails known _ _ _ _ c.args.waits.now c.wait_for.new.waits issued None c.wait_for.new.service c.wait_for.new.mapper c.in_ok-wait_for.ensures.fewer c.in_ok-wait_for.ensures.able c.in_ok-wait_for.ensures.none
    (g.V.Service.read c.args.line.now) c.requires.other so
    (c.in_ok-wait_for.ensures.goes known issued (λ script h. ap (option_and_then g.V.Service.semantics.actor_of) (so script h) ∙ c.requires.other))
    c.put.result _ c.answer-answer.result m (λ some. absurd (no_access _ c.requires.other some)) refl c.args.number e c.put.ensures.put c.put.ensures.failed
