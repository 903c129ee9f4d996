use Rattle.seg_manager.proofs.Calling.Served.{passed_served}
use Rattle.seg_manager.proofs.manager.SegManager.pass_on.Goals as goal

pub returns : goal.returns
returns g c =
    passed_served g.M.Mapper g.G.Gmi c.args.self.now c.args.mapper.now c.requires.can c.answer.new.gmi c.answer.new.mapper c.answer.result c.args.command.now c.requires.passed c.answer.ensures.call
