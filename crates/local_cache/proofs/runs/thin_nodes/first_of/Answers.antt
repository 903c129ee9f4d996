use Rattle.std.proofs.Common.{arith}
use Rattle.local_cache.proofs.ThinFirst.{first_of_match, short_first}
use Rattle.local_cache.proofs.runs.thin_nodes.first_of.Goals as goal

pub returns-then-len-gt0 : goal.returns-then-len-gt0
returns-then-len-gt0 c = first_of_match c.args.runs.now.list c.next_from.result c.next_from.ensures.next

pub returns-else-len-gt0 : goal.returns-else-len-gt0
returns-else-len-gt0 c = short_first c.args.runs.now.list (omega arith)
