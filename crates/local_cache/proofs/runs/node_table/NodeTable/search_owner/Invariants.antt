use Rattle.std.proofs.Common.{ℕ}
use Rattle.local_cache.specs.Looking.{IsOwner}
use Rattle.local_cache.proofs.WayUp.{way_left}
use Rattle.local_cache.proofs.runs.node_table.NodeTable.search_owner.Given as goal

abbrev pub invariant-loop-place : goal.invariant-loop-place
invariant-loop-place l = (owner : ℕ) → IsOwner l.self.cells l.first owner → IsOwner l.self.cells l.node owner

abbrev pub decreases-loop-place : goal.decreases-loop-place
decreases-loop-place l = way_left l.self.cells l.node
