use Rattle.std.proofs.Common.{ap, ◌∙◌, arith}
use Rattle.probe_table.specs.Entries.{table_of}
use Rattle.probe_table.proofs.Growing.{more_in}
use Rattle.probe_table.proofs.growth.grow.Goals as goal

pub returns-clause-same : goal.returns-clause-same
returns-clause-same c =
    ap (table_of c.args.count) c.lengthen.ensures.items
    ∙ more_in c.args.count c.size_for-size.result c.args.hashes.now.items (omega arith) c.size_for-size.ensures.within
