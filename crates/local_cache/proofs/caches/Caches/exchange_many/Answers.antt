use Rattle.std.proofs.Common.{◌+◌, refl, sym, subst, ◌∙◌, arith}
use Rattle.local_cache.specs.Arena.{Arena, NodesStay}
use Rattle.local_cache.specs.ManyNodes.{next_if, next_node}
use Rattle.local_cache.specs.NodeCells.{with_child}
use Rattle.local_cache.proofs.ArenaBy.OneOfMany.{first_child, one_cell, one_held, short_if}
use Rattle.local_cache.proofs.ArenaBy.Seen.{all_held, cell_call, cells_call, held_seen}
use Rattle.local_cache.proofs.Nodes.Many.{stay_cells}
use Rattle.local_cache.proofs.caches.Caches.exchange_many.Goals as goal

pub change_there-requires-clause-held : goal.change_there-requires-clause-held
change_there-requires-clause-held c =
    held_seen c.self.inside.nodes c.self.inside.list c.args.self.now c.self.view_is c.args.node
    (one_held c.args.self.now c.args.node c.args.count c.if-count-eq1.true c.requires.held)

pub change_there-requires-clause-lasts : goal.change_there-requires-clause-lasts
change_there-requires-clause-lasts c = λ far.
    let gone = held_seen c.self.inside.nodes c.self.inside.list c.args.self.now c.self.view_is c.args.gone
    (one_held c.args.self.now c.args.gone c.args.count c.if-count-eq1.true c.requires.gone) in
    (omega (arith, far c.args.gone.0 gone), short_if c.args.instead c.args.count 0 (omega (arith, c.if-count-eq1.true)) c.requires.instead)

pub change_each-requires-clause-held : goal.change_each-requires-clause-held
change_each-requires-clause-held c = all_held c.self.inside.nodes c.self.inside.list c.args.self.now c.self.view_is c.args.node c.args.count c.requires.held

pub change_each-requires-clause-lasts : goal.change_each-requires-clause-lasts
change_each-requires-clause-lasts c = λ far k less.
    let gone = all_held c.self.inside.nodes c.self.inside.list c.args.self.now c.self.view_is c.args.gone c.args.count c.requires.gone k less in
    (omega (arith, far (c.args.gone.0 + k) gone), short_if c.args.instead c.args.count k less c.requires.instead)

pub invariant_of-self : goal.invariant_of-self
invariant_of-self c =
    (cell_call c.self.inside.nodes c.self.inside.list c.args.self.now c.self.view_is c.self.invariant c.change_there.new.self c.args.node (with_child c.args.gone c.args.instead) (λ d. refl)
    (one_held c.args.self.now c.args.node c.args.count c.if-count-eq1.true c.requires.held) c.change_there.ensures).right

pub invariant_of-self-else-count-eq1 : goal.invariant_of-self-else-count-eq1
invariant_of-self-else-count-eq1 c =
    (cells_call c.self.inside.nodes c.self.inside.list c.args.self.now c.self.view_is c.self.invariant c.change_each.new.self c.args.node
    (λ k. with_child (next_node c.args.gone k) (next_if c.args.instead k)) c.args.count (λ k d. refl) c.requires.held c.change_each.ensures).right

pub returns-then-count-eq1-clause-changed : goal.returns-then-count-eq1-clause-changed
returns-then-count-eq1-clause-changed c =
    (cell_call c.self.inside.nodes c.self.inside.list c.args.self.now c.self.view_is c.self.invariant c.change_there.new.self c.args.node (with_child c.args.gone c.args.instead) (λ d. refl)
    (one_held c.args.self.now c.args.node c.args.count c.if-count-eq1.true c.requires.held) c.change_there.ensures).is
    ∙ one_cell c.args.self.now c.args.node (with_child c.args.gone c.args.instead) (λ k. with_child (next_node c.args.gone k) (next_if c.args.instead k)) c.args.count
    c.if-count-eq1.true (first_child c.args.gone c.args.instead)

pub returns-then-count-eq1-clause-stays : goal.returns-then-count-eq1-clause-stays
returns-then-count-eq1-clause-stays c =
    subst (λ (b : Arena). NodesStay c.args.self.now b) (sym (returns-then-count-eq1-clause-changed c))
    (stay_cells c.args.self.now c.args.node (λ k. with_child (next_node c.args.gone k) (next_if c.args.instead k)) c.args.count)

pub returns-else-count-eq1-clause-changed : goal.returns-else-count-eq1-clause-changed
returns-else-count-eq1-clause-changed c =
    (cells_call c.self.inside.nodes c.self.inside.list c.args.self.now c.self.view_is c.self.invariant c.change_each.new.self c.args.node
    (λ k. with_child (next_node c.args.gone k) (next_if c.args.instead k)) c.args.count (λ k d. refl) c.requires.held c.change_each.ensures).is

pub returns-else-count-eq1-clause-stays : goal.returns-else-count-eq1-clause-stays
returns-else-count-eq1-clause-stays c =
    subst (λ (b : Arena). NodesStay c.args.self.now b) (sym (returns-else-count-eq1-clause-changed c))
    (stay_cells c.args.self.now c.args.node (λ k. with_child (next_node c.args.gone k) (next_if c.args.instead k)) c.args.count)
