use Rattle.std.proofs.Common.{◌-◌, length, set}
use Rattle.least_heap.specs.Heaps.{IsSinking}
use Rattle.least_heap.proofs.Moving.{IsOnWay}
use Rattle.least_heap.proofs.heap.sink.Given as goal

abbrev pub invariant-loop-below : goal.invariant-loop-below
invariant-loop-below l = IsOnWay IsSinking (set l.fn.heap l.fn.index l.numbered) l.heap l.stands l.hole l.numbered

abbrev pub decreases-loop-below : goal.decreases-loop-below
decreases-loop-below l = length l.heap - l.hole
