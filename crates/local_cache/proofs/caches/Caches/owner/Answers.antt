use Rattle.std.proofs.Common.{subst, sym}
use Rattle.local_cache.specs.Arena.{Arena}
use Rattle.local_cache.specs.Looking.{IsOwner}
use Rattle.local_cache.specs.NodeCells.{Cells}
use Rattle.local_cache.specs.OnCells.{IsOwnerOf}
use Rattle.local_cache.proofs.ArenaBy.Owners.{owner_by, owner_in}
use Rattle.local_cache.proofs.caches.Caches.owner.Goals as goal

pub owner_from-requires : goal.owner_from-requires
owner_from-requires c =
    let A : Arena → Type 0 = λ a. IsOwnerOf a c.args.node c.requires.0 in
    let Q : Cells → Type 0 = λ x. IsOwner x c.args.node.0 c.requires.0.0 in
    (c.requires.0.0, subst Q (sym c.table.ensures.cells) (owner_in c.self.inside.nodes c.self.inside.list c.args.node c.requires.0 (subst A (sym c.self.view_is) c.requires.1)))

pub returns : goal.returns
returns c =
    let A : Arena → Type 0 = λ a. IsOwnerOf a c.args.node c.owner_from.result in
    let Q : Cells → Type 0 = λ x. IsOwner x c.args.node.0 c.owner_from.result.0 in
    subst A c.self.view_is (owner_by c.self.inside.nodes c.self.inside.list c.args.node c.owner_from.result (subst Q c.table.ensures.cells c.owner_from.ensures))
