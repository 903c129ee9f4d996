use Rattle.linear_index.proofs.Chaining.{IsSeeking, left}
use Rattle.linear_index.proofs.chains.place_in.Given as goal

abbrev pub invariant-loop-next : goal.invariant-loop-next
invariant-loop-next l = IsSeeking l.cells l.fn.first l.next l.key

abbrev pub decreases-loop-next : goal.decreases-loop-next
decreases-loop-next l = left l.cells l.next
