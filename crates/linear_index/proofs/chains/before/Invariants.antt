use Rattle.std.proofs.Common.{Some}
use Rattle.linear_index.proofs.Chaining.{IsBefore, left}
use Rattle.linear_index.proofs.chains.before.Given as goal

abbrev pub invariant-loop-next : goal.invariant-loop-next
invariant-loop-next l = IsBefore l.cells l.first l.before l.place

abbrev pub decreases-loop-next : goal.decreases-loop-next
decreases-loop-next l = left l.cells (Some l.before)
