use Rattle.std.proofs.result.Match.{err_is}
use Rattle.replay.proofs.Calling.{refused}
use Rattle.replay.proofs.commands.CommandsService.answer.Goals as goal

pub returns-in_err-command-clause-answered : goal.returns-in_err-command-clause-answered
returns-in_err-command-clause-answered g c =
    rw (err_is c.from_residual.result _ c.from_residual.ensures.1)
    (refused c.args.line.now c.in_err-command.field-0.0 _ _ c.in_err-command.ensures.command)
