use Rattle.std.proofs.Common.{◌+◌, length, sym, ap, ◌∙◌, arith}
use Rattle.local_cache.specs.declared.links.Ends.{Ends}
use Rattle.local_cache.specs.Arena.{cell}
use Rattle.history_tree.proofs.Children.{at_most_two, count_is, fits}
use Rattle.history_tree.proofs.chains.item_of.Goals as goal

pub tree_children-requires-clause-few : goal.tree_children-requires-clause-few
tree_children-requires-clause-few c = at_most_two c.args.caches.now c.requires.sound c.args.node c.requires.node

pub overflow_add-result : goal.overflow_add-result
overflow_add-result c =
    let f = fits c.args.caches.now c.requires.sound c.args.node c.requires.node c.counts-all.ensures.few in
    omega (arith, f, c.tree_children.ensures, ap (λ (l : Ends). l.stubs) c.ends.ensures)

pub returns : goal.returns
returns c =
    let children = ap (λ k. k + c.ends.result.stubs) c.tree_children.ensures
    ∙ ap (λ (l : Ends). length (cell c.args.caches.now c.args.node).tree + l.stubs) c.ends.ensures
    ∙ sym (count_is c.args.caches.now c.requires.sound c.args.node c.requires.node) in
    λ i. record { name = c.name.ensures i; children = children i }
