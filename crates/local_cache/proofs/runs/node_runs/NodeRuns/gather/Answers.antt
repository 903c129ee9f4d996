use Rattle.std.proofs.Common.{◌-◌, ap, ◌∙◌, arith}
use Rattle.std.specs.Prelude.{is_some}
use Rattle.std.specs.FinMap as map
use Rattle.local_cache.specs.NodeCells.{Cells}
use Rattle.local_cache.specs.PageNodes.{PageNodes}
use Rattle.local_cache.proofs.NodesKept.{given_below, name_of, same_right}
use Rattle.local_cache.proofs.runs.node_runs.NodeRuns.gather.Goals as goal

pub gather_from-requires : goal.gather_from-requires
gather_from-requires c =
    let held = ap (λ (m : PageNodes). is_some (map.get m.cells c.args.node.0)) c.self.view_is ∙ c.requires in
    omega (arith, given_below c.self.inside.table.cells c.self.inside.counters c.self.invariant.numbered c.args.node.0 held)

pub invariant_of-self : goal.invariant_of-self
invariant_of-self c =
    let e = c.gather_from.ensures in
    same_right c.self.inside.table c.gather_from.new.self c.self.inside.pages c.self.inside.counters c.self.inside.capacity c.self.invariant
    (λ n. ap (λ (x : Cells). name_of (map.get x n)) e.cells) (ap map.len e.cells) e.count e.room

pub returns : goal.returns
returns c =
    let e = c.gather_from.ensures in
    (λ i. record {
      cells = e.cells i;
      pages = c.self.inside.pages.nodes.cells;
      made = c.self.inside.counters.made;
      room = c.self.inside.capacity - map.len (e.cells i);
    }) ∙ c.self.view_is
