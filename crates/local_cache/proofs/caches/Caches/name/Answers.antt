use Rattle.std.proofs.Common.{ap, ◌∙◌}
use Rattle.std.specs.Prelude.{is_some}
use Rattle.std.specs.FinMap as map
use Rattle.local_cache.specs.Arena.{Cell}
use Rattle.local_cache.specs.NodeCells.{Cells, cell_at}
use Rattle.local_cache.proofs.ArenaBy.Seen.{cell_seen, held_seen}
use Rattle.local_cache.proofs.caches.Caches.name.Goals as goal

pub name-requires : goal.name-requires
name-requires c = ap (λ (x : Cells). is_some (map.get x c.args.node.0)) c.table.ensures.cells ∙ held_seen c.self.inside.nodes c.self.inside.list c.args.self.now c.self.view_is c.args.node c.requires

pub returns : goal.returns
returns c =
    c.name.ensures ∙ ap (λ (d : Cell). d.name) (ap (λ (x : Cells). cell_at x c.args.node.0) c.table.ensures.cells ∙ cell_seen c.self.inside.nodes c.self.inside.list c.args.self.now c.self.view_is c.args.node)
