use Rattle.std.proofs.Common.{◌∙◌, sym}
use Rattle.local_cache.proofs.CacheList.Counts.{count_gone, count_set}
use Rattle.local_cache.proofs.cache_list.set_count.Goals as goal

pub returns-then-count-gt0-clause-cells : goal.returns-then-count-gt0-clause-cells
returns-then-count-gt0-clause-cells c = c.set_one.ensures.cells ∙ sym (count_set _ c.args.number c.args.count c.if-count-gt0.true)

pub returns-else-count-gt0-clause-cells : goal.returns-else-count-gt0-clause-cells
returns-else-count-gt0-clause-cells c = c.clear_one.ensures.cells ∙ sym (count_gone _ c.args.number c.args.count c.if-count-gt0.false)
