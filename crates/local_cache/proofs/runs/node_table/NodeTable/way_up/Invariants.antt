use Rattle.local_cache.specs.Looking.{IsFurtherUp}
use Rattle.local_cache.proofs.WayUp.{way_left}
use Rattle.local_cache.proofs.runs.node_table.NodeTable.way_up.Given as goal

abbrev pub invariant-loop-nodes : goal.invariant-loop-nodes
invariant-loop-nodes l = IsFurtherUp l.self.cells l.first l.node

abbrev pub decreases-loop-nodes : goal.decreases-loop-nodes
decreases-loop-nodes l = way_left l.self.cells l.node
