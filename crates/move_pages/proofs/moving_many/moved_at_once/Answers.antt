use Rattle.std.proofs.Common.{◌≤◌, ◌∙◌, subst, arith}
use Rattle.local_cache.specs.Arena.{Arena}
use Rattle.local_cache.specs.Many.{AreAlike}
use Rattle.tree_merge.specs.Copyable.{AreLeaves}
use Rattle.tree_merge.proofs.AlikeNodes.{fewer, fewer_leaves}
use Rattle.move_pages.proofs.moving_many.moved_at_once.Goals as goal

pub returns-clause-leaves : goal.returns-clause-leaves
returns-clause-leaves c = λ many.
    let few : c.max.result ≤ c.leaf_nodes-leaves.result = omega (arith, many) in
    subst (λ (x : Arena). AreLeaves x c.args.node c.max.result) c.gather_leaves.ensures
    (fewer_leaves c.gather_leaves.new.caches c.args.node c.leaf_nodes-leaves.result c.max.result few c.leaf_nodes-leaves.ensures.leaves)

pub returns-clause-alike : goal.returns-clause-alike
returns-clause-alike c = λ many.
    let few : c.max.result ≤ c.stretch.result = omega (arith, many) in
    subst (λ (x : Arena). AreAlike x c.args.source c.max.result) (c.gather.ensures ∙ c.gather_leaves.ensures)
    (fewer c.gather.new.caches c.args.source c.stretch.result c.max.result few c.stretch.ensures.alike)
