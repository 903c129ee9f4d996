use Rattle.std.proofs.Common.{set}
use Rattle.least_heap.specs.Heaps.{IsRising}
use Rattle.least_heap.proofs.Moving.{IsOnWay}
use Rattle.least_heap.proofs.heap.rise.Given as goal

abbrev pub invariant-loop-above : goal.invariant-loop-above
invariant-loop-above l = IsOnWay IsRising (set l.fn.heap l.fn.index l.numbered) l.heap l.stands l.hole l.numbered

abbrev pub decreases-loop-above : goal.decreases-loop-above
decreases-loop-above l = l.hole
