use Rattle.std.proofs.Common.{◌≤◌, arith}
use Rattle.tree_merge.proofs.AlikeNodes.{fewer}
use Rattle.page_commands.proofs.PassedOver.Nodes.{alike_untouched}
use Rattle.page_commands.proofs.untouched.untouched_nodes.Goals as goal

pub returns-then-is_untouched-clause-untouched : goal.returns-then-is_untouched-clause-untouched
returns-then-is_untouched-clause-untouched c =
    let few : c.min.result ≤ c.stretch.result = omega arith in
    let is = c.is_untouched.ensures in
    alike_untouched c.args.caches.now c.args.node c.min.result
    (fewer c.args.caches.now c.args.node c.stretch.result c.min.result few c.stretch.ensures.alike)
    (is.own c.if-is_untouched.true) (is.root c.if-is_untouched.true) (is.tree c.if-is_untouched.true)
