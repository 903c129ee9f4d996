use Rattle.std.proofs.Common.{List, refl, ap, ◌∙◌}
use Rattle.vm_ids.specs.declared.numbers.NodeId.{NodeId}
use Rattle.local_cache.specs.Arena.{with_tree}
use Rattle.local_cache.specs.NodeCells.{over, tree_of}
use Rattle.local_cache.proofs.ArenaBy.Seen.{cell_call, held_seen}
use Rattle.local_cache.proofs.Nodes.Cells.{stays-put}
use Rattle.local_cache.proofs.caches.Caches.set_tree_children.Goals as goal

pub change-requires-clause-held : goal.change-requires-clause-held
change-requires-clause-held c = held_seen c.self.inside.nodes c.self.inside.list c.args.self.now c.self.view_is c.args.node c.requires.held

pub invariant_of-self : goal.invariant_of-self
invariant_of-self c =
    (cell_call c.self.inside.nodes c.self.inside.list c.args.self.now c.self.view_is c.self.invariant c.change.new.self c.args.node
    (over (tree_of c.of-change.result.older c.of-change.result.newer)) (λ d. refl) c.requires.held c.change.ensures).right

pub returns-clause-changed : goal.returns-clause-changed
returns-clause-changed c =
    (cell_call c.self.inside.nodes c.self.inside.list c.args.self.now c.self.view_is c.self.invariant c.change.new.self c.args.node
    (over (tree_of c.of-change.result.older c.of-change.result.newer)) (λ d. refl) c.requires.held c.change.ensures).is
    ∙ ap (λ (children : List NodeId). with_tree c.args.self.now c.args.node children) c.of-change.ensures

pub returns-clause-stays : goal.returns-clause-stays
returns-clause-stays c = stays-put c.args.self.now _ c.args.node _ (returns-clause-changed c)
