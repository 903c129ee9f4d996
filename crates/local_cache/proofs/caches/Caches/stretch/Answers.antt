use Rattle.std.proofs.Common.{◌+◌, ◌-◌, ap, sym, subst, ◌∙◌, inl, inr, arith}
use Rattle.std.specs.Prelude.{is_some}
use Rattle.std.specs.FinMap as map
use Rattle.std.proofs.lemmas.Bool.{cases_eq}
use Rattle.local_cache.specs.Arena.{Arena}
use Rattle.local_cache.specs.Many.{AreAlike, CanBeAlike}
use Rattle.local_cache.specs.NodeCells.{Cells, cell_at}
use Rattle.local_cache.specs.LinkTable.{AreSaidAlike}
use Rattle.local_cache.proofs.ArenaBy.Alike.{alike_by}
use Rattle.local_cache.proofs.ArenaBy.Seen.{cell_seen, held_seen}
use Rattle.local_cache.proofs.caches.Caches.stretch.Goals as goal

pub stretch-requires : goal.stretch-requires
stretch-requires c = ap (λ (x : Cells). is_some (map.get x c.args.node.0)) c.table.ensures.cells ∙ held_seen c.self.inside.nodes c.self.inside.list c.args.self.now c.self.view_is c.args.node c.requires

alike : (c : goal.After-stretch) → AreSaidAlike c.self.inside.nodes.cells c.args.node.0 c.stretch.result
alike c = let Q : Cells → Type 0 = λ x. AreSaidAlike x c.args.node.0 c.stretch.result in subst Q c.table.ensures.cells c.stretch.ensures.alike

pub returns-clause-alike : goal.returns-clause-alike
returns-clause-alike c =
    let A : Arena → Type 0 = λ a. AreAlike a c.args.node c.stretch.result in
    subst A c.self.view_is (alike_by c.self.inside.nodes c.self.inside.list c.args.node c.stretch.result (alike c))

pub returns-clause-short : goal.returns-clause-short
returns-clause-short c = elim (cases_eq c.stretch.result 0) [
  | inl none ↦ omega (arith, none)
  | inr some ↦
      let last = c.stretch.result - 1 in
      omega (arith, some, c.table.ensures.short (c.args.node.0 + last) (ap is_some ((alike c).said last (omega (arith, some)))))
]

pub returns-clause-some : goal.returns-clause-some
returns-clause-some c can =
    c.stretch.ensures.some
    (subst CanBeAlike (sym (ap (λ (x : Cells). cell_at x c.args.node.0) c.table.ensures.cells ∙ cell_seen c.self.inside.nodes c.self.inside.list c.args.self.now c.self.view_is c.args.node)) can)
