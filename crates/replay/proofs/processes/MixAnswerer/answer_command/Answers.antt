use Rattle.replay.specs.Processing.{process_meaning}
use Rattle.replay.proofs.Answered.{answered}
use Rattle.replay.proofs.processes.MixAnswerer.answer_command.Goals as goal

pub returns-clause-answered : goal.returns-clause-answered
returns-clause-answered g c =
    let call = c.answer.ensures in
    answered process_meaning c.args.command.now _ _ call.rises _ _ _ call.rose call.is
