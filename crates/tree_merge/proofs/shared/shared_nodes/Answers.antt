use Rattle.std.proofs.Common.{◌≤◌, arith}
use Rattle.tree_merge.proofs.AlikeNodes.{alike_shared, fewer}
use Rattle.tree_merge.proofs.shared.shared_nodes.Goals as goal

pub returns-then-is_shared-clause-shared : goal.returns-then-is_shared-clause-shared
returns-then-is_shared-clause-shared c =
    let few : c.min.result ≤ c.stretch.result = omega arith in
    let shared = c.is_shared.ensures in
    alike_shared c.args.caches.now c.args.node c.min.result
    (fewer c.args.caches.now c.args.node c.stretch.result c.min.result few c.stretch.ensures.alike)
    (shared.tree c.if-is_shared.true) (shared.empty c.if-is_shared.true)
