use Rattle.std.proofs.Common.{ap, sym, subst, ◌∙◌}
use Rattle.std.specs.Prelude.{IfSome}
use Rattle.local_cache.specs.Arena.{Arena, HasNode, cell}
use Rattle.local_cache.specs.OnCells as on
use Rattle.local_cache.specs.PageNodes as nodes
use Rattle.local_cache.proofs.ArenaBy.Exchanging.{gave_way, parent_in, passes_by}
use Rattle.local_cache.proofs.ArenaBy.Seen.{held_seen, node_call}
use Rattle.local_cache.proofs.caches.Caches.give_way.Goals as goal

parent : (c : goal.After-give_way) → IfSome (nodes.cell c.self.inside.nodes c.args.node).links.parent (nodes.HasNode c.self.inside.nodes)
parent c =
    let P : Arena → Type 0 = λ a. IfSome (cell a c.args.node).links.parent (HasNode a) in
    parent_in c.self.inside.nodes c.self.inside.list c.args.node (subst P (sym c.self.view_is) c.requires.parent)

pub give_way-requires-clause-held : goal.give_way-requires-clause-held
give_way-requires-clause-held c = held_seen c.self.inside.nodes c.self.inside.list c.args.self.now c.self.view_is c.args.node c.requires.held

pub give_way-requires-clause-child : goal.give_way-requires-clause-child
give_way-requires-clause-child c = held_seen c.self.inside.nodes c.self.inside.list c.args.self.now c.self.view_is c.args.child c.requires.child

pub give_way-requires-clause-parent : goal.give_way-requires-clause-parent
give_way-requires-clause-parent c =
    let P : Arena → Type 0 = λ a. IfSome (cell a c.args.node).links.parent (HasNode a) in
    parent_in c.self.inside.nodes c.self.inside.list c.args.node (subst P (sym c.self.view_is) c.requires.parent)

pub invariant_of-self : goal.invariant_of-self
invariant_of-self c = (node_call c.self.inside.nodes c.self.inside.list c.args.self.now c.self.view_is c.self.invariant c.give_way.new.self (nodes.given_way c.self.inside.nodes c.args.node c.args.child) (λ (b : Arena). on.given_way b c.args.node c.args.child) c.give_way.ensures.given (gave_way c.self.inside.nodes c.self.inside.list c.self.invariant.placed c.args.node c.args.child (held_seen c.self.inside.nodes c.self.inside.list c.args.self.now c.self.view_is c.args.node c.requires.held) (held_seen c.self.inside.nodes c.self.inside.list c.args.self.now c.self.view_is c.args.child c.requires.child) (parent c))).right

pub returns-clause-passed : goal.returns-clause-passed
returns-clause-passed c = c.give_way.ensures.passed ∙ passes_by c.self.inside.nodes c.self.inside.list c.args.node c.args.child ∙ ap (λ (a : Arena). on.passes a c.args.node c.args.child) c.self.view_is

pub returns-clause-given : goal.returns-clause-given
returns-clause-given c = (node_call c.self.inside.nodes c.self.inside.list c.args.self.now c.self.view_is c.self.invariant c.give_way.new.self (nodes.given_way c.self.inside.nodes c.args.node c.args.child) (λ (b : Arena). on.given_way b c.args.node c.args.child) c.give_way.ensures.given (gave_way c.self.inside.nodes c.self.inside.list c.self.invariant.placed c.args.node c.args.child (held_seen c.self.inside.nodes c.self.inside.list c.args.self.now c.self.view_is c.args.node c.requires.held) (held_seen c.self.inside.nodes c.self.inside.list c.args.self.now c.self.view_is c.args.child c.requires.child) (parent c))).is
