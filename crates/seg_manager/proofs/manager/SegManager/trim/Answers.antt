use Rattle.std.proofs.Common.{arith}
use Rattle.seg_manager.proofs.Room.Trimmed.{trimmed, trimmed_failed, trimming_more, trimming_none}
use Rattle.seg_manager.proofs.manager.SegManager.trim.Goals as goal

pub loop-self-init : goal.loop-self-init
loop-self-init g c = trimming_none g.M.Mapper g.G.Gmi c.args.mapper.now c.args.self.now c.requires.can

pub loop-self-preserved : goal.loop-self-preserved
loop-self-preserved g c =
    trimming_more g.M.Mapper g.G.Gmi c.args.mapper.now c.args.self.now c.loop-self.mapper c.loop-self.self c.loop-self.invariant c.destroy_first.new.mapper c.destroy_first.new.self
    (omega (arith, c.loop-self-test.true, c.len.ensures)) c.in-Ok.ensures.0 c.in-Ok.ensures.1

pub returns-in-Err : goal.returns-in-Err
returns-in-Err g c =
    trimmed_failed g.M.Mapper g.G.Gmi c.args.mapper.now c.args.self.now c.loop-self.mapper c.loop-self.self c.loop-self.invariant c.in-Err.field-0 c.destroy_first.new.mapper c.destroy_first.new.self c.in-Err.ensures

pub returns : goal.returns
returns g c =
    trimmed g.M.Mapper g.G.Gmi c.args.mapper.now c.args.self.now c.loop-self.mapper c.loop-self.self c.loop-self.invariant (omega (arith, c.loop-self-test.false, c.len.ensures))
