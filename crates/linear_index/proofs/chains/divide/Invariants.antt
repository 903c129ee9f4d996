use Rattle.std.proofs.Common.{true, false}
use Rattle.linear_index.specs.Buckets.{is_for}
use Rattle.linear_index.proofs.Chaining.{left}
use Rattle.linear_index.proofs.Parts.{IsDividing}
use Rattle.linear_index.proofs.chains.divide.Given as goal

abbrev pub invariant-loop-next : goal.invariant-loop-next
invariant-loop-next l = IsDividing l.fn.cells l.cells l.fn.first l.next l.stay l.go (is_for l.fn.cells l.mask l.bucket) false true

abbrev pub decreases-loop-next : goal.decreases-loop-next
decreases-loop-next l = left l.cells l.next
