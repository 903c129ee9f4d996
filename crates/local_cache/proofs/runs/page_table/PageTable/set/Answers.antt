use Rattle.std.proofs.Common.{◌+◌, ap, ◌∙◌}
use Rattle.std.specs.FinMap as map
use Rattle.local_cache.specs.Pages.{Pages, pages_from}
use Rattle.local_cache.proofs.PageRanges.{left_pages, pages_again}
use Rattle.local_cache.proofs.runs.page_table.PageTable.set.Goals as goal

pub enter-requires-clause-vacant : goal.enter-requires-clause-vacant
enter-requires-clause-vacant c k less =
    ap (λ (m : Pages). map.get m (c.args.page + k)) c.remove_range.ensures.cells
    ∙ left_pages c.args.self.now.nodes.cells c.args.page c.args.node c.args.count k less

pub returns-then-count-gt1-clause-pages : goal.returns-then-count-gt1-clause-pages
returns-then-count-gt1-clause-pages c =
    c.enter.ensures.pages ∙ ap (λ (m : Pages). pages_from m c.args.page c.args.node c.args.count) c.remove_range.ensures.cells
    ∙ pages_again c.args.self.now.nodes.cells c.args.page c.args.node c.args.count
