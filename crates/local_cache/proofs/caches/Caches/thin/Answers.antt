use Rattle.std.proofs.Common.{subst}
use Rattle.local_cache.specs.Arena.{Arena}
use Rattle.local_cache.specs.NodeCells.{Cells}
use Rattle.local_cache.specs.LinkTable as table
use Rattle.local_cache.specs.Thin.{IsLeastThin}
use Rattle.local_cache.proofs.ArenaBy.Thin.{least_thin_by}
use Rattle.local_cache.proofs.caches.Caches.thin.Goals as goal

pub returns : goal.returns
returns c =
    let P : Arena → Type 0 = λ a. IsLeastThin a c.thin.result in
    let Q : Cells → Type 0 = λ x. table.IsLeastThin x c.thin.result in
    subst P c.self.view_is (least_thin_by c.self.inside.nodes c.self.inside.list c.thin.result (subst Q c.table.ensures.cells c.thin.ensures))
