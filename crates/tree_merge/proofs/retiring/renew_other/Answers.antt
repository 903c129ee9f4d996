use Rattle.std.proofs.Common.{◌≡◌, true, sym, subst, ◌∙◌}
use Rattle.vm_ids.specs.declared.numbers.NodeId.{NodeId}
use Rattle.vm_ids.specs.declared.node_name.NodeName.TheVariants.{Live, Working}
use Rattle.vm_ids.specs.declared.node_name.NodeName.{NodeName}
use Rattle.vm_ids.specs.Forest.Nodes.{is_live}
use Rattle.local_cache.specs.declared.own_state.OwnState.{OwnState}
use Rattle.local_cache.specs.Arena.{Arena}
use Rattle.local_cache.specs.NodeCells.{is_page, renewed}
use Rattle.local_cache.specs.OnCells.{on_cell, on_cells}
use Rattle.history_tree.proofs.OnCells.{here, one_held}
use Rattle.tree_merge.specs.Stepping.{IsDetachedAlone}
use Rattle.tree_merge.specs.declared.released.Released.TheVariants.{Dropped}
use Rattle.tree_merge.proofs.Leaving.Left.{left_detached, left_page, no_children, parent_detached, parent_page, some_child}
use Rattle.std.proofs.lemmas.Bool.{false≢true}
use Rattle.tree_merge.proofs.retiring.renew_other.Goals as goal

live_page : (x : NodeName) → is_live x ≡ true → is_page x ≡ true
live_page (Live cache page) e = e
live_page (Working k) e = e

once : (b c : Arena) (n : NodeId) (s : OwnState) → c ≡ on_cells b n (λ _. renewed s) 1 → c ≡ on_cell b n (renewed s)
once b c n s is = is ∙ (λ i. on_cell b (here n i) (renewed s))

pub renew_many-requires-clause-held : goal.renew_many-requires-clause-held
renew_many-requires-clause-held c = one_held c.leave_parent.new.caches c.args.node c.leave_parent.ensures.held

pub replace-requires-clause-page : goal.replace-requires-clause-page
replace-requires-clause-page c = live_page _ c.requires.live

pub returns-then-is_leaf-clause-alone : goal.returns-then-is_leaf-clause-alone
returns-then-is_leaf-clause-alone c = λ cache page named.
    let a = c.args.caches.now in
    let r = c.requires in
    let leaf = c.is_leaf.ensures.0 c.if-is_leaf.true in
    let b = c.leave_parent.new.caches in
    subst (λ (s : OwnState). IsDetachedAlone a c.renew_many.new.self cache page c.args.state (Dropped c.args.node s)) (sym c.own_state-before.ensures)
    (left_detached a b r.sound c.args.node r.held c.leave_parent.ensures (no_children a r.sound c.args.node r.held leaf.0 leaf.1) cache page named
    c.args.state c.renew_many.new.self (once b c.renew_many.new.self c.args.node c.args.state c.renew_many.ensures.changed))

pub returns-then-is_leaf-clause-page : goal.returns-then-is_leaf-clause-page
returns-then-is_leaf-clause-page c = λ cache page named.
    let a = c.args.caches.now in
    let r = c.requires in
    let leaf = c.is_leaf.ensures.0 c.if-is_leaf.true in
    let b = c.leave_parent.new.caches in
    left_page a b r.sound c.args.node r.held c.leave_parent.ensures (no_children a r.sound c.args.node r.held leaf.0 leaf.1) cache page named
    c.args.state c.renew_many.new.self (once b c.renew_many.new.self c.args.node c.args.state c.renew_many.ensures.changed)

pub returns-else-is_leaf-clause-alone : goal.returns-else-is_leaf-clause-alone
returns-else-is_leaf-clause-alone c = λ cache page named.
    let a = c.args.caches.now in
    let r = c.requires in
    let children = some_child a r.sound c.args.node r.held (λ tree first. false≢true (sym c.if-is_leaf.false ∙ c.is_leaf.ensures.1 (tree, first))) in
    parent_detached a r.sound c.args.node r.held children cache page named c.args.state c.replace.result c.replace.ensures.new c.replace.new.self c.replace.ensures.changed

pub returns-else-is_leaf-clause-page : goal.returns-else-is_leaf-clause-page
returns-else-is_leaf-clause-page c = λ cache page named.
    let a = c.args.caches.now in
    let r = c.requires in
    let children = some_child a r.sound c.args.node r.held (λ tree first. false≢true (sym c.if-is_leaf.false ∙ c.is_leaf.ensures.1 (tree, first))) in
    parent_page a r.sound c.args.node r.held children cache page named c.args.state c.replace.result c.replace.ensures.new c.replace.new.self c.replace.ensures.changed
