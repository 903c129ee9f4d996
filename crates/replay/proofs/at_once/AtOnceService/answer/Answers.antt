use Rattle.std.proofs.result.Match.{err_is}
use Rattle.replay.proofs.Answered.{of_line, refused}
use Rattle.replay.proofs.at_once.AtOnceService.answer.Goals as goal

pub returns-clause-answered : goal.returns-clause-answered
returns-clause-answered g c =
    let A = g.A.Answerer in
    of_line A.meaning (A.read c.args.line.now) c.in_ok-command.command _ _ _ _ _ c.in_ok-command.ensures.command c.answer_command.ensures.answered

pub returns-in_err-command-clause-answered : goal.returns-in_err-command-clause-answered
returns-in_err-command-clause-answered g c =
    let A = g.A.Answerer in
    rw (err_is c.from_residual.result _ c.from_residual.ensures.1)
    (refused A.meaning (A.read c.args.line.now) c.in_err-command.field-0.0 _ _ c.in_err-command.ensures.command)
