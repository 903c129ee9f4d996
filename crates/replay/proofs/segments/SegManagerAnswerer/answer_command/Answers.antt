use Rattle.replay.specs.Reopening.{keep_meaning}
use Rattle.replay.proofs.Answered.{answered}
use Rattle.replay.proofs.segments.SegManagerAnswerer.answer_command.Goals as goal

pub returns-clause-answered : goal.returns-clause-answered
returns-clause-answered g c =
    let call = c.call.ensures in
    answered keep_meaning c.args.command.now _ _ call.rises _ _ _ call.rose call.is
