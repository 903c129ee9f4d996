use Rattle.std.proofs.Common.{◌≡◌, sym, subst}
use Rattle.std.specs.Prelude.{◌↔◌, IfSome, IsSome}
use Rattle.local_cache.specs.Arena.{Arena, Cell, HasNode, cell}
use Rattle.local_cache.specs.PageNodes.{IsFreeLeaf}
use Rattle.local_cache.specs.PageNodes as nodes
use Rattle.local_cache.proofs.ArenaBy.Exchanging.{leaf_call, leaf_right, leaf_stays, parent_in}
use Rattle.local_cache.proofs.ArenaBy.Seen.{cell_seen, held_seen}
use Rattle.local_cache.proofs.caches.Caches.renew_leaf.Goals as goal

pub renew_leaf-requires-clause-held : goal.renew_leaf-requires-clause-held
renew_leaf-requires-clause-held c = held_seen c.self.inside.nodes c.self.inside.list c.args.self.now c.self.view_is c.args.node c.requires.held

pub renew_leaf-requires-clause-parent : goal.renew_leaf-requires-clause-parent
renew_leaf-requires-clause-parent c =
    let P : Arena → Type 0 = λ a. IfSome (cell a c.args.node).links.parent (HasNode a) in
    parent_in c.self.inside.nodes c.self.inside.list c.args.node (subst P (sym c.self.view_is) c.requires.parent)

parent : (c : goal.After-renew_leaf) → IfSome (nodes.cell c.self.inside.nodes c.args.node).links.parent (nodes.HasNode c.self.inside.nodes)
parent c =
    let P : Arena → Type 0 = λ a. IfSome (cell a c.args.node).links.parent (HasNode a) in
    parent_in c.self.inside.nodes c.self.inside.list c.args.node (subst P (sym c.self.view_is) c.requires.parent)

pub invariant_of-self : goal.invariant_of-self
invariant_of-self c =
    leaf_right c.self.inside.nodes c.self.inside.list c.args.self.now c.self.view_is c.self.invariant c.args.node c.args.state
    (held_seen c.self.inside.nodes c.self.inside.list c.args.self.now c.self.view_is c.args.node c.requires.held) (parent c) c.renew_leaf.new.self c.renew_leaf.result c.renew_leaf.ensures.renewed

pub returns-clause-own : goal.returns-clause-own
returns-clause-own c =
    let P : Cell → Type 0 = λ d. IfSome c.renew_leaf.result (λ was. was ≡ d.own) in
    subst P (cell_seen c.self.inside.nodes c.self.inside.list c.args.self.now c.self.view_is c.args.node) c.renew_leaf.ensures.own

pub returns-clause-leaf : goal.returns-clause-leaf
returns-clause-leaf c =
    let P : Cell → Type 0 = λ d. IsSome c.renew_leaf.result ↔ IsFreeLeaf d in
    subst P (cell_seen c.self.inside.nodes c.self.inside.list c.args.self.now c.self.view_is c.args.node) c.renew_leaf.ensures.leaf

pub returns-clause-changed : goal.returns-clause-changed
returns-clause-changed c =
    leaf_call c.self.inside.nodes c.self.inside.list c.args.self.now c.self.view_is c.self.invariant c.args.node c.args.state
    (held_seen c.self.inside.nodes c.self.inside.list c.args.self.now c.self.view_is c.args.node c.requires.held) (parent c) c.renew_leaf.new.self c.renew_leaf.result c.renew_leaf.ensures.renewed

pub returns-clause-stays : goal.returns-clause-stays
returns-clause-stays c = leaf_stays c.args.self.now c.args.node c.args.state _ c.renew_leaf.result (returns-clause-changed c)
