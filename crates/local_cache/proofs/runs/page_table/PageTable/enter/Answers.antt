use Rattle.std.proofs.Common.{sym, ◌∙◌, arith}
use Rattle.local_cache.proofs.PageRanges.{pages_told, vacant_pages}
use Rattle.local_cache.proofs.runs.page_table.PageTable.enter.Goals as goal

pub insert_stretch-requires-clause-fit : goal.insert_stretch-requires-clause-fit
insert_stretch-requires-clause-fit c = λ some. record {
  some = some;
  short = omega arith;
  ends = c.requires.short;
  lasts = c.requires.nodes;
}

pub insert_stretch-requires-clause-vacant : goal.insert_stretch-requires-clause-vacant
insert_stretch-requires-clause-vacant c = vacant_pages c.args.self.now.nodes.cells c.args.page c.args.node c.args.count c.requires.vacant

pub returns-clause-pages : goal.returns-clause-pages
returns-clause-pages c = c.insert_stretch.ensures.cells ∙ sym (pages_told c.args.self.now.nodes.cells c.args.page c.args.node c.args.count)
