use Rattle.std.proofs.Common.{◌≡◌, [], None, ap, subst, ◌∙◌}
use Rattle.std.specs.Prelude.{◌↔◌, IsTrue, is_some}
use Rattle.std.specs.FinMap as map
use Rattle.local_cache.specs.Arena.{Cell}
use Rattle.local_cache.specs.NodeCells.{Cells, cell_at}
use Rattle.local_cache.proofs.ArenaBy.Seen.{cell_seen, held_seen}
use Rattle.local_cache.proofs.caches.Caches.is_leaf.Goals as goal

pub is_leaf-requires : goal.is_leaf-requires
is_leaf-requires c = ap (λ (x : Cells). is_some (map.get x c.args.node.0)) c.table.ensures.cells ∙ held_seen c.self.inside.nodes c.self.inside.list c.args.self.now c.self.view_is c.args.node c.requires

pub returns : goal.returns
returns c =
    let cell = ap (λ (x : Cells). cell_at x c.args.node.0) c.table.ensures.cells ∙ cell_seen c.self.inside.nodes c.self.inside.list c.args.self.now c.self.view_is c.args.node in
    let P : Cell → Type 0 = λ d. IsTrue c.is_leaf.result ↔ ((d.tree ≡ []) × (d.links.first ≡ None)) in
    subst P cell c.is_leaf.ensures
