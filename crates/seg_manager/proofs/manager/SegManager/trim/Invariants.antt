use Rattle.std.proofs.Common.{length}
use Rattle.seg_manager.proofs.Room.Trimmed.{IsTrimming}
use Rattle.seg_manager.proofs.manager.SegManager.trim.Given as goal

abbrev pub invariant-loop-self : goal.invariant-loop-self
invariant-loop-self g l = IsTrimming g.M.Mapper g.G.Gmi l.fn.mapper l.fn.self l.mapper l.self

abbrev pub decreases-loop-self : goal.decreases-loop-self
decreases-loop-self g l = length l.self.kept.items
