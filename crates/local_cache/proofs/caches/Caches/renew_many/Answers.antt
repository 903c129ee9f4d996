use Rattle.std.proofs.Common.{refl, sym, subst, ◌∙◌}
use Rattle.local_cache.specs.Arena.{Arena, NodesStay}
use Rattle.local_cache.specs.NodeCells.{renewed}
use Rattle.local_cache.proofs.ArenaBy.OneOfMany.{one_cell, one_held}
use Rattle.local_cache.proofs.ArenaBy.Seen.{all_held, cell_call, cells_call, held_seen}
use Rattle.local_cache.proofs.Nodes.Many.{stay_cells}
use Rattle.local_cache.proofs.caches.Caches.renew_many.Goals as goal

pub change-requires-clause-held : goal.change-requires-clause-held
change-requires-clause-held c =
    held_seen c.self.inside.nodes c.self.inside.list c.args.self.now c.self.view_is c.args.node
    (one_held c.args.self.now c.args.node c.args.count c.if-count-eq1.true c.requires.held)

pub change_each-requires-clause-held : goal.change_each-requires-clause-held
change_each-requires-clause-held c = all_held c.self.inside.nodes c.self.inside.list c.args.self.now c.self.view_is c.args.node c.args.count c.requires.held

pub change_each-requires-clause-plain : goal.change_each-requires-clause-plain
change_each-requires-clause-plain c = c.requires.plain c.if-count-eq1.false

pub invariant_of-self : goal.invariant_of-self
invariant_of-self c =
    (cell_call c.self.inside.nodes c.self.inside.list c.args.self.now c.self.view_is c.self.invariant c.change.new.self c.args.node (renewed c.args.state) (λ d. refl)
    (one_held c.args.self.now c.args.node c.args.count c.if-count-eq1.true c.requires.held) c.change.ensures).right

pub invariant_of-self-else-count-eq1 : goal.invariant_of-self-else-count-eq1
invariant_of-self-else-count-eq1 c =
    (cells_call c.self.inside.nodes c.self.inside.list c.args.self.now c.self.view_is c.self.invariant c.change_each.new.self c.args.node (λ k. renewed c.args.state) c.args.count (λ k d. refl)
    c.requires.held c.change_each.ensures).right

pub returns-then-count-eq1-clause-changed : goal.returns-then-count-eq1-clause-changed
returns-then-count-eq1-clause-changed c =
    (cell_call c.self.inside.nodes c.self.inside.list c.args.self.now c.self.view_is c.self.invariant c.change.new.self c.args.node (renewed c.args.state) (λ d. refl)
    (one_held c.args.self.now c.args.node c.args.count c.if-count-eq1.true c.requires.held) c.change.ensures).is
    ∙ one_cell c.args.self.now c.args.node (renewed c.args.state) (λ k. renewed c.args.state) c.args.count c.if-count-eq1.true refl

pub returns-then-count-eq1-clause-stays : goal.returns-then-count-eq1-clause-stays
returns-then-count-eq1-clause-stays c =
    subst (λ (b : Arena). NodesStay c.args.self.now b) (sym (returns-then-count-eq1-clause-changed c))
    (stay_cells c.args.self.now c.args.node (λ k. renewed c.args.state) c.args.count)

pub returns-else-count-eq1-clause-changed : goal.returns-else-count-eq1-clause-changed
returns-else-count-eq1-clause-changed c =
    (cells_call c.self.inside.nodes c.self.inside.list c.args.self.now c.self.view_is c.self.invariant c.change_each.new.self c.args.node (λ k. renewed c.args.state) c.args.count (λ k d. refl)
    c.requires.held c.change_each.ensures).is

pub returns-else-count-eq1-clause-stays : goal.returns-else-count-eq1-clause-stays
returns-else-count-eq1-clause-stays c =
    subst (λ (b : Arena). NodesStay c.args.self.now b) (sym (returns-else-count-eq1-clause-changed c))
    (stay_cells c.args.self.now c.args.node (λ k. renewed c.args.state) c.args.count)
