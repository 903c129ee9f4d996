use Rattle.stretches.proofs.Leaves.Indexes.{index_plus}
use Rattle.stretches.proofs.directory.Directory.behind.Goals as goal

pub returns-clause-index : goal.returns-clause-index
returns-clause-index g c = index_plus c.args.self.now.lists c.args.spot.leaf c.args.spot.at
