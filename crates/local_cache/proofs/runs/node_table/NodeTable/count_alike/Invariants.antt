use Rattle.std.proofs.Common.{◌-◌, ◌<◌, ◌≤◌}
use Rattle.local_cache.specs.NodeTable.{AreSaidBy}
use Rattle.local_cache.proofs.runs.node_table.NodeTable.count_alike.Given as goal

abbrev pub invariant-loop-count : goal.invariant-loop-count
invariant-loop-count l = record {
  some : 0 < l.count;
  most : l.count ≤ l.most;
  alike : AreSaidBy l.self l.node l.run l.count;
}

abbrev pub decreases-loop-count : goal.decreases-loop-count
decreases-loop-count l = l.most - l.count
