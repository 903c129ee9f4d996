use Rattle.std.proofs.Common.{length}
use Rattle.vm_ids.specs.declared.command.Command.TheVariants.{OpenSegment}
use Rattle.seg_manager.specs.Thinning.{Trying}
use Rattle.seg_manager.proofs.manager.SegManager.open_segment.Given as goal

abbrev pub invariant-loop-cache : goal.invariant-loop-cache
invariant-loop-cache g l = Trying g.M.Mapper g.G.Gmi (OpenSegment l.fn.seg) l.fn.mapper l.fn.self l.mapper l.self

abbrev pub decreases-loop-cache : goal.decreases-loop-cache
decreases-loop-cache g l = length l.self.kept.items
