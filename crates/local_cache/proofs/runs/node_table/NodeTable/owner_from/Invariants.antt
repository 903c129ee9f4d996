use Rattle.std.proofs.Common.{ℕ}
use Rattle.local_cache.specs.Looking.{IsOwner}
use Rattle.local_cache.proofs.WayUp.{way_left}
use Rattle.local_cache.proofs.runs.node_table.NodeTable.owner_from.Given as goal

abbrev pub invariant-loop-single : goal.invariant-loop-single
invariant-loop-single l = (owner : ℕ) → IsOwner l.self.cells l.first owner → IsOwner l.self.cells l.node owner

abbrev pub decreases-loop-single : goal.decreases-loop-single
decreases-loop-single l = way_left l.self.cells l.node
