use Rattle.std.proofs.Common.{◌≤◌, sym, ap, ◌∙◌, arith}
use Rattle.std.proofs.lemmas.Bool.{false≢true}
use Rattle.local_cache.specs.declared.links.Links.{Links}
use Rattle.tree_merge.proofs.AlikeNodes.{alike_leaves, can_be_alike, fewer}
use Rattle.tree_merge.proofs.lone.leaf_nodes.Goals as goal

pub returns-then-is_empty_leaf-clause-leaves : goal.returns-then-is_empty_leaf-clause-leaves
returns-then-is_empty_leaf-clause-leaves c =
    let few : c.min-count.result ≤ c.stretch.result = omega arith in
    let leaf = c.is_empty_leaf.ensures in
    alike_leaves c.args.caches.now c.args.node c.min-count.result
    (fewer c.args.caches.now c.args.node c.stretch.result c.min-count.result few c.stretch.ensures.alike)
    (leaf.leaf c.if-is_empty_leaf.true) (leaf.empty c.if-is_empty_leaf.true) (omega (arith, c.stretch.ensures.short))

pub returns-then-is_empty_leaf-clause-some : goal.returns-then-is_empty_leaf-clause-some
returns-then-is_empty_leaf-clause-some c = λ leaf empty some.
    let more = c.stretch.ensures.some (can_be_alike c.args.caches.now c.args.node leaf empty) in
    omega (arith, some, more)

pub returns-else-is_empty_leaf-clause-some : goal.returns-else-is_empty_leaf-clause-some
returns-else-is_empty_leaf-clause-some c = λ leaf empty some.
    absurd (false≢true (sym c.if-is_empty_leaf.false ∙ c.is_empty_leaf.ensures.told empty leaf.tree (ap (λ (l : Links). l.first) leaf.links)))
