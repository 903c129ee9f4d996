use Rattle.std.proofs.Common.{arith}
use Rattle.local_cache.proofs.Alike.{said_first}
use Rattle.local_cache.proofs.runs.node_table.NodeTable.count_alike.Goals as goal

pub loop-count-init : goal.loop-count-init
loop-count-init c = record {
  some = omega arith;
  most = omega (arith, c.requires.some);
  alike = said_first c.args.self.now c.args.node c.args.run c.requires.first;
}
