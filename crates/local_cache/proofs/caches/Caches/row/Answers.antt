use Rattle.std.proofs.Common.{◌≡◌, ◌<◌, ℕ, true, None, ap, subst, ◌∙◌, arith}
use Rattle.std.specs.Prelude.{is_some, slice_get}
use Rattle.std.specs.FinMap as map
use Rattle.local_cache.specs.Arena.{Arena, Cell}
use Rattle.local_cache.specs.Looking.{IsInRow}
use Rattle.local_cache.specs.NodeCells.{Cells, cell_at, is_page}
use Rattle.local_cache.specs.OnCells.{AreInRow}
use Rattle.local_cache.proofs.ArenaBy.Owners.{row_by}
use Rattle.local_cache.proofs.ArenaBy.Seen.{cell_seen, held_seen}
use Rattle.local_cache.proofs.caches.Caches.row.Goals as goal

pub row_from-requires-clause-held : goal.row_from-requires-clause-held
row_from-requires-clause-held c = ap (λ (x : Cells). is_some (map.get x c.args.node.0)) c.table.ensures.cells ∙ held_seen c.self.inside.nodes c.self.inside.list c.args.self.now c.self.view_is c.args.node c.requires

pub row_from-requires-clause-short : goal.row_from-requires-clause-short
row_from-requires-clause-short c = omega (arith, c.table.ensures.short c.args.node.0 (held_seen c.self.inside.nodes c.self.inside.list c.args.self.now c.self.view_is c.args.node c.requires))

pub returns-clause-row : goal.returns-clause-row
returns-clause-row c =
    let A : Arena → Type 0 = λ a. AreInRow a c.args.node c.row_from.result in
    let Q : Cells → Type 0 = λ x. (k : ℕ) → k < c.row_from.result → IsInRow x c.args.node.0 k in
    subst A c.self.view_is (row_by c.self.inside.nodes c.self.inside.list c.args.node c.row_from.result (subst Q c.table.ensures.cells c.row_from.ensures.row))

pub returns-clause-some : goal.returns-clause-some
returns-clause-some c =
    let cell = ap (λ (x : Cells). cell_at x c.args.node.0) c.table.ensures.cells ∙ cell_seen c.self.inside.nodes c.self.inside.list c.args.self.now c.self.view_is c.args.node in
    let P : Cell → Type 0 = λ d. 0 < c.args.most → is_page d.name ≡ true → slice_get d.tree 1 ≡ None → 0 < c.row_from.result in
    subst P cell c.row_from.ensures.some
