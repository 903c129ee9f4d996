use Rattle.std.proofs.Common.{◌+◌, ◌-◌, ℕ, sym, ap, subst, ◌∙◌, arith}
use Rattle.std.specs.Prelude.{is_some}
use Rattle.std.specs.FinMap as map
use Rattle.local_cache.specs.NodeCells.{Cells, changed_each}
use Rattle.local_cache.specs.PageNodes.{PageNodes}
use Rattle.local_cache.proofs.NodesKept.{SameNames, given_below, keeps_free_each, len_each, many_short, names_each, same_right}
use Rattle.local_cache.proofs.runs.node_runs.NodeRuns.change_each.Goals as goal

pub change_each-requires-clause-lasts : goal.change_each-requires-clause-lasts
change_each-requires-clause-lasts g c =
    c.requires.lasts (λ n held.
    omega (
      arith,
      given_below c.self.inside.table.cells c.self.inside.counters c.self.invariant.numbered n
          (ap (λ (m : PageNodes). is_some (map.get m.cells n)) c.self.view_is ∙ held),
    ))

pub change_each-requires-clause-short : goal.change_each-requires-clause-short
change_each-requires-clause-short g c =
    many_short c.self.inside.table.cells c.self.inside.counters c.self.invariant.numbered c.args.node.0 c.args.count (omega arith)
    (λ k less. ap (λ (m : PageNodes). is_some (map.get m.cells (c.args.node.0 + k))) c.self.view_is ∙ c.requires.held k less)

pub change_each-requires-clause-thin : goal.change_each-requires-clause-thin
change_each-requires-clause-thin g c =
    keeps_free_each c.self.inside.table.cells c.self.inside.counters c.args.node.0 c.args.count (λ k. g.C.Change.cell (g.C.ChangeEach.after c.args.change k)) c.self.invariant.numbered c.requires.named
    (λ k less. ap (λ (m : PageNodes). is_some (map.get m.cells (c.args.node.0 + k))) c.self.view_is ∙ c.requires.held k less)

pub invariant_of-self : goal.invariant_of-self
invariant_of-self g c =
    let t = c.self.inside.table in
    let n = c.args.node.0 in
    let f : ℕ → _ = λ k. g.C.Change.cell (g.C.ChangeEach.after c.args.change k) in
    let P : Cells → Type 0 = λ x. SameNames t.cells x in
    same_right t c.change_each.new.self c.self.inside.pages c.self.inside.counters c.self.inside.capacity c.self.invariant
    (subst P (sym c.change_each.ensures.cells) (names_each t.cells n f c.requires.named c.args.count
    (λ k less. ap (λ (m : PageNodes). is_some (map.get m.cells (n + k))) c.self.view_is ∙ c.requires.held k less)))
    (ap map.len c.change_each.ensures.cells ∙ len_each t.cells n f c.args.count
    (λ k less. ap (λ (m : PageNodes). is_some (map.get m.cells (n + k))) c.self.view_is ∙ c.requires.held k less))
    c.change_each.ensures.count c.change_each.ensures.room

pub returns : goal.returns
returns g c =
    let t = c.self.inside.table in
    let n = c.args.node.0 in
    let f : ℕ → _ = λ k. g.C.Change.cell (g.C.ChangeEach.after c.args.change k) in
    let len = ap map.len c.change_each.ensures.cells ∙ len_each t.cells n f c.args.count
    (λ k less. ap (λ (m : PageNodes). is_some (map.get m.cells (n + k))) c.self.view_is ∙ c.requires.held k less) in
    (λ i. record {
      cells = c.change_each.ensures.cells i;
      pages = c.self.inside.pages.nodes.cells;
      made = c.self.inside.counters.made;
      room = c.self.inside.capacity - len i;
    }) ∙ ap (λ (m : PageNodes). record m { cells = changed_each m.cells n f c.args.count }) c.self.view_is
