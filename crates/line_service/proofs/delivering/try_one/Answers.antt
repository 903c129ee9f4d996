use Rattle.std.proofs.Common.{◌+◌, length, refl}
use Rattle.std.proofs.lemmas.Result.{err_from_is_err_and}
use Rattle.line_service.proofs.Parking.{apart_without, fewer, let_in_without, still_let_in, tried_failed, tried_put}
use Rattle.line_service.proofs.Trying.{tries_left}
use Rattle.line_service.proofs.delivering.try_one.Goals as goal

pub returns-in_default-issue-clause-able : goal.returns-in_default-issue-clause-able
returns-in_default-issue-clause-able g c =
    let said = c.issue.ensures in
    record { able = said.able; let_in = still_let_in g.V.Service _ _ _ _ c.args.waits.now said.still_admits said.still_live c.requires.able.let_in; apart = c.requires.able.apart }

pub returns-in_default-issue-clause-tried : goal.returns-in_default-issue-clause-tried
returns-in_default-issue-clause-tried g c = λ p e.
    let waits = c.in_default-issue.ensures.waits in
    tries_left g.V.Service.semantics g.R.Replies.puts _ _ _ waits.same waits.rose refl

pub put-requires : goal.put-requires
put-requires g c =
    let fits = c.requires.fits in
    record { fits = (length c.take-line.new.self + fits.0, fewer (g.R.Replies.fits c.args.replies.now) c.args.waits.now c.take-line.new.self c.args.place fits.0 c.requires.place c.take-line.ensures.left fits.1) }

pub returns-in_err-put-clause-able : goal.returns-in_err-put-clause-able
returns-in_err-put-clause-able g c =
    let said = c.issue.ensures in
    record { able = said.able; let_in = let_in_without g.V.Service _ _ _ _ c.args.waits.now _ c.args.place c.take-line.ensures.left said.still_admits said.still_live c.requires.able.let_in; apart = apart_without c.args.waits.now _ c.args.place c.take-line.ensures.left c.requires.able.apart }

pub returns-in_err-put-clause-tried : goal.returns-in_err-put-clause-tried
returns-in_err-put-clause-tried g c = λ p e.
    let r = err_from_is_err_and c.from_residual.result c.from_residual.ensures.1 in
    rw r.1 (tried_failed g.V.Service g.R.Replies.puts g.R.Replies.fails _ _ c.args.waits.now c.args.place p c.in-Some.parked.now c.take-line.result e c.in-Some.ensures c.take-line.ensures.taken c.in-Some-issue.answer c.in-Some-issue.ensures.answered c.in_err-put.ensures.failed)

pub returns-clause-able : goal.returns-clause-able
returns-clause-able g c =
    let said = c.issue.ensures in
    record { able = said.able; let_in = let_in_without g.V.Service _ _ _ _ c.args.waits.now _ c.args.place c.take-line.ensures.left said.still_admits said.still_live c.requires.able.let_in; apart = apart_without c.args.waits.now _ c.args.place c.take-line.ensures.left c.requires.able.apart }

pub returns-clause-tried : goal.returns-clause-tried
returns-clause-tried g c = λ p e.
    tried_put g.V.Service g.R.Replies.puts g.R.Replies.fails _ _ c.args.waits.now c.args.place p c.in-Some.parked.now c.take-line.result e c.in-Some.ensures c.take-line.ensures.taken c.in-Some-issue.answer c.in-Some-issue.ensures.answered c.in_ok-put.ensures.put
