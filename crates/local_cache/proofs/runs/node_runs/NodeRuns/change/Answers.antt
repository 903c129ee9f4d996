use Rattle.std.proofs.Common.{◌-◌, refl, sym, ap, subst, ◌∙◌}
use Rattle.std.specs.Prelude.{is_some}
use Rattle.std.specs.FinMap as map
use Rattle.local_cache.specs.NodeCells.{Cells, changed}
use Rattle.local_cache.specs.PageNodes.{PageNodes}
use Rattle.local_cache.proofs.NodesKept.{SameNames, keeps_free, len_changed, names_changed, same_right}
use Rattle.local_cache.proofs.runs.node_runs.NodeRuns.change.Goals as goal

pub change-requires-clause-thin : goal.change-requires-clause-thin
change-requires-clause-thin g c =
    let t = c.self.inside.table in
    let held = ap (λ (m : PageNodes). is_some (map.get m.cells c.args.node.0)) c.self.view_is ∙ c.requires.held in
    keeps_free t.cells t.cells c.self.inside.counters c.args.node.0 (g.C.Change.cell c.args.change) c.self.invariant.numbered (λ q. refl) c.requires.named held

pub invariant_of-self : goal.invariant_of-self
invariant_of-self g c =
    let t = c.self.inside.table in
    let n = c.args.node.0 in
    let f = g.C.Change.cell c.args.change in
    let held = ap (λ (m : PageNodes). is_some (map.get m.cells n)) c.self.view_is ∙ c.requires.held in
    let P : Cells → Type 0 = λ x. SameNames t.cells x in
    same_right t c.change.new.self c.self.inside.pages c.self.inside.counters c.self.inside.capacity c.self.invariant
    (subst P (sym c.change.ensures.cells) (names_changed t.cells n f c.requires.named held))
    (ap map.len c.change.ensures.cells ∙ len_changed t.cells n f held) c.change.ensures.count c.change.ensures.room

pub returns : goal.returns
returns g c =
    let t = c.self.inside.table in
    let n = c.args.node.0 in
    let f = g.C.Change.cell c.args.change in
    let held = ap (λ (m : PageNodes). is_some (map.get m.cells n)) c.self.view_is ∙ c.requires.held in
    let len = ap map.len c.change.ensures.cells ∙ len_changed t.cells n f held in
    (λ i. record {
      cells = c.change.ensures.cells i;
      pages = c.self.inside.pages.nodes.cells;
      made = c.self.inside.counters.made;
      room = c.self.inside.capacity - len i;
    }) ∙ ap (λ (m : PageNodes). record m { cells = changed m.cells n f }) c.self.view_is
