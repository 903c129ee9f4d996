use Rattle.replay.proofs.Framing.{framed_able, framed_answered}
use Rattle.replay.proofs.frames.FlatMmAnswerer.answer_command.Goals as goal

pub returns-clause-able : goal.returns-clause-able
returns-clause-able g c = framed_able g.M.Mapper c.args.mapper.now c.answer.new.mapper c.args.self.now c.answer.new.self c.requires.able c.args.command.now c.answer.result c.answer.ensures

pub returns-clause-answered : goal.returns-clause-answered
returns-clause-answered g c = framed_answered g.M.Mapper c.args.mapper.now c.answer.new.mapper c.args.self.now c.answer.new.self c.requires.able c.args.command.now c.answer.result c.answer.ensures
