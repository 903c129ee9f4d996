use Rattle.std.proofs.Common.{length}
use Rattle.seg_manager.proofs.Leaves.RegionsGone.{IsDropping}
use Rattle.seg_manager.proofs.manager.SegManager.drop_regions.Given as goal

abbrev pub invariant-loop-place : goal.invariant-loop-place
invariant-loop-place g l = IsDropping l.fn.self l.leaving l.self

abbrev pub decreases-loop-place : goal.decreases-loop-place
decreases-loop-place g l = length l.self.regions.items
