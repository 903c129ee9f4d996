use Rattle.std.proofs.Common.{◌≡◌, ◌-◌, Option, None, refl, sym, ap, subst, ◌∙◌}
use Rattle.std.specs.Prelude.{IfSome, is_some}
use Rattle.std.specs.FinMap as map
use Rattle.vm_ids.specs.declared.numbers.NodeId.{NodeId}
use Rattle.local_cache.specs.NodeCells.{Cells, HasCell, changed, renewed}
use Rattle.local_cache.specs.PageNodes.{HasNode, PageNodes, cell, cut_from}
use Rattle.local_cache.proofs.NodesKept.{SameNames, keeps_free, len_changed, names_changed, parent_still, parent_told, same_right}
use Rattle.local_cache.proofs.runs.node_runs.NodeRuns.renew_leaf.Goals as goal

pub change-requires-clause-thin : goal.change-requires-clause-thin
change-requires-clause-thin c =
    let t = c.self.inside.table in
    let held : HasCell t.cells c.args.node.0 = ap (λ (m : PageNodes). is_some (map.get m.cells c.args.node.0)) c.self.view_is ∙ c.requires.held in
    keeps_free t.cells t.cells c.self.inside.counters c.args.node.0 (renewed c.args.own) c.self.invariant.numbered (λ q. refl) (λ d. refl) held

held : (c : goal.After-change) → HasCell c.self.inside.table.cells c.args.node.0
held c = ap (λ (m : PageNodes). is_some (map.get m.cells c.args.node.0)) c.self.view_is ∙ c.requires.held

names : (c : goal.After-change) → SameNames c.self.inside.table.cells c.change.new.self.cells
names c =
    let P : Cells → Type 0 = λ x. SameNames c.self.inside.table.cells x in
    subst P (sym c.change.ensures.cells) (names_changed c.self.inside.table.cells c.args.node.0 (renewed c.args.own) (λ d. refl) (held c))

len : (c : goal.After-change) → map.len c.change.new.self.cells ≡ map.len c.self.inside.table.cells
len c = ap map.len c.change.ensures.cells ∙ len_changed c.self.inside.table.cells c.args.node.0 (renewed c.args.own) (held c)

parent : (c : goal.After-change) → c.in_ok-leaf.leaf.parent ≡ (cell c.args.self.now c.args.node).links.parent
parent c = c.in_ok-leaf.ensures.parent ∙ ap (λ (m : PageNodes). (cell m c.args.node).links.parent) c.self.view_is

pub invariant_of-self : goal.invariant_of-self
invariant_of-self c =
    same_right c.self.inside.table c.change.new.self c.self.inside.pages c.self.inside.counters c.self.inside.capacity c.self.invariant (names c) (len c) c.change.ensures.count c.change.ensures.room

pub exchange_child-requires-clause-parent : goal.exchange_child-requires-clause-parent
exchange_child-requires-clause-parent c =
    let there = ap (λ (m : PageNodes). is_some (map.get m.cells c.args.node.0)) c.self.view_is ∙ c.requires.held in
    let P : Cells → Type 0 = λ x. SameNames c.self.inside.table.cells x in
    let same = subst P (sym c.change.ensures.cells) (names_changed c.self.inside.table.cells c.args.node.0 (renewed c.args.own) (λ d. refl) there) in
    let parent = c.in_ok-leaf.ensures.parent ∙ ap (λ (m : PageNodes). (cell m c.args.node).links.parent) c.self.view_is in
    let Q : PageNodes → Type 0 = λ m. IfSome c.in_ok-leaf.leaf.parent (HasNode m) in
    parent_still c.self.inside.table.cells c.change.new.self.cells same c.in_ok-leaf.leaf.parent
    (subst Q (sym c.self.view_is) (parent_told c.args.self.now c.args.node c.in_ok-leaf.leaf.parent parent c.requires.parent))

pub returns-clause-renewed : goal.returns-clause-renewed
returns-clause-renewed c =
    let there = ap (λ (m : PageNodes). is_some (map.get m.cells c.args.node.0)) c.self.view_is ∙ c.requires.held in
    let size = ap map.len c.change.ensures.cells ∙ len_changed c.self.inside.table.cells c.args.node.0 (renewed c.args.own) there in
    let parent = c.in_ok-leaf.ensures.parent ∙ ap (λ (m : PageNodes). (cell m c.args.node).links.parent) c.self.view_is in
    c.exchange_child.ensures
    ∙ ap (λ (m : PageNodes). cut_from m c.in_ok-leaf.leaf.parent c.args.node None)
    ((λ i. record {
      cells = c.change.ensures.cells i;
      pages = c.self.inside.pages.nodes.cells;
      made = c.self.inside.counters.made;
      room = c.self.inside.capacity - size i;
    }) ∙ ap (λ (m : PageNodes). record m { cells = changed m.cells c.args.node.0 (renewed c.args.own) }) c.self.view_is)
    ∙ ap (λ (p : Option NodeId). cut_from (record c.args.self.now { cells = changed c.args.self.now.cells c.args.node.0 (renewed c.args.own) }) p c.args.node None) parent
