use Rattle.replay.specs.Posting.{port_meaning}
use Rattle.replay.proofs.Answered.{answered}
use Rattle.replay.proofs.ports.PortsAnswerer.answer_command.Goals as goal

pub returns-clause-answered : goal.returns-clause-answered
returns-clause-answered g c =
    let call = c.call.ensures in
    answered port_meaning c.args.command.now _ _ call.rises _ _ _ call.rose call.is
