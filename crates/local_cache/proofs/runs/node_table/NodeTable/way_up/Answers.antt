use Rattle.std.proofs.Common.{ℕ, sym, ap, subst, ◌∙◌}
use Rattle.std.specs.Prelude.{is_some, option_map}
use Rattle.vm_ids.specs.declared.numbers.NodeId.{NodeId}
use Rattle.local_cache.specs.Arena.{Cell}
use Rattle.local_cache.specs.Looking.{IsOwner}
use Rattle.mixed_map.specs.Mixed.{Tells}
use Rattle.local_cache.specs.NodeCells.{run_cell}
use Rattle.local_cache.specs.NodeTable.{Table}
use Rattle.local_cache.specs.Runs.{run}
use Rattle.local_cache.specs.Own.{is_absent}
use Rattle.local_cache.proofs.WayUp.{has_parent, itself, more_up, one_up, same_owner, told_cell, told_first, way_falls}
use Rattle.local_cache.proofs.runs.node_table.NodeTable.way_up.Goals as goal

pub returns-then-not-is_absent : goal.returns-then-not-is_absent
returns-then-not-is_absent c =
    let told = told_first c.args.self.now.cells c.args.first c.run_from-nodes.result c.run_from-nodes.ensures.from in
    itself c.args.self.now.cells c.args.first c.requires.owner.0 c.requires.owner.1
    (ap (λ (d : Cell). is_absent d.own) told ∙ sym c.is_absent.ensures ∙ c.if-not-is_absent.true)

pub unwrap-node-requires : goal.unwrap-node-requires
unwrap-node-requires c =
    let told = told_first c.args.self.now.cells c.args.first c.run_from-nodes.result c.run_from-nodes.ensures.from in
    ap (λ (d : Cell). is_some d.links.parent) (sym told)
    ∙ has_parent c.args.self.now.cells c.args.first c.requires.owner.0 c.requires.owner.1
    (ap (λ (d : Cell). is_absent d.own) told ∙ sym c.is_absent.ensures ∙ c.if-not-is_absent.false)

pub loop-nodes-init : goal.loop-nodes-init
loop-nodes-init c =
    let told = told_first c.args.self.now.cells c.args.first c.run_from-nodes.result c.run_from-nodes.ensures.from in
    one_up c.args.self.now.cells c.args.first c.unwrap-node.result.0
    (ap (λ (d : Cell). is_absent d.own) told ∙ sym c.is_absent.ensures ∙ c.if-not-is_absent.false)
    (ap (λ (d : Cell). option_map (λ (q : NodeId). q.0) d.links.parent) told ∙ ap (option_map (λ (q : NodeId). q.0)) c.unwrap-node.ensures)

pub returns-then-not-is_absent-2 : goal.returns-then-not-is_absent-2
returns-then-not-is_absent-2 c =
    let m = c.args.self.now.cells in
    let T : Table → Type 0 = λ t. Tells run run_cell t.cells c.in-Some.nodes.now in
    let told = told_cell m c.loop-nodes.node c.in-Some.nodes.now (subst T c.self.view_is c.in-Some.ensures.told) c.in-Some.ensures.with.has in
    let here = c.loop-nodes.invariant c.requires.owner.0 c.requires.owner.1 in
    let P : ℕ → Type 0 = λ q. IsOwner m c.args.first q in
    subst P (same_owner m c.loop-nodes.node c.requires.owner.0 here.0
    (ap (λ (d : Cell). is_absent d.own) told ∙ sym c.is_absent-in-Some.ensures ∙ c.if-not-is_absent-2.true)) c.requires.owner.1

pub unwrap-node-requires-in-Some : goal.unwrap-node-requires-in-Some
unwrap-node-requires-in-Some c =
    let m = c.args.self.now.cells in
    let T : Table → Type 0 = λ t. Tells run run_cell t.cells c.in-Some.nodes.now in
    let told = told_cell m c.loop-nodes.node c.in-Some.nodes.now (subst T c.self.view_is c.in-Some.ensures.told) c.in-Some.ensures.with.has in
    let here = c.loop-nodes.invariant c.requires.owner.0 c.requires.owner.1 in
    ap is_some c.parent_after.ensures ∙ ap (λ (d : Cell). is_some d.links.parent) (sym told)
    ∙ has_parent m c.loop-nodes.node c.requires.owner.0 here.0 (ap (λ (d : Cell). is_absent d.own) told ∙ sym c.is_absent-in-Some.ensures ∙ c.if-not-is_absent-2.false)

pub loop-nodes-smaller : goal.loop-nodes-smaller
loop-nodes-smaller c =
    let m = c.args.self.now.cells in
    let T : Table → Type 0 = λ t. Tells run run_cell t.cells c.in-Some.nodes.now in
    let told = told_cell m c.loop-nodes.node c.in-Some.nodes.now (subst T c.self.view_is c.in-Some.ensures.told) c.in-Some.ensures.with.has in
    let here = c.loop-nodes.invariant c.requires.owner.0 c.requires.owner.1 in
    way_falls m c.loop-nodes.node c.unwrap-node-in-Some.result.0 c.requires.owner.0
    (one_up m c.loop-nodes.node c.unwrap-node-in-Some.result.0
    (ap (λ (d : Cell). is_absent d.own) told ∙ sym c.is_absent-in-Some.ensures ∙ c.if-not-is_absent-2.false)
    (ap (λ (d : Cell). option_map (λ (q : NodeId). q.0) d.links.parent) told
    ∙ ap (option_map (λ (q : NodeId). q.0)) (sym c.parent_after.ensures ∙ c.unwrap-node-in-Some.ensures)))
    here.0

pub loop-nodes-preserved : goal.loop-nodes-preserved
loop-nodes-preserved c =
    let m = c.args.self.now.cells in
    let T : Table → Type 0 = λ t. Tells run run_cell t.cells c.in-Some.nodes.now in
    let told = told_cell m c.loop-nodes.node c.in-Some.nodes.now (subst T c.self.view_is c.in-Some.ensures.told) c.in-Some.ensures.with.has in
    more_up m c.args.first c.loop-nodes.node c.unwrap-node-in-Some.result.0 c.loop-nodes.invariant
    (one_up m c.loop-nodes.node c.unwrap-node-in-Some.result.0
    (ap (λ (d : Cell). is_absent d.own) told ∙ sym c.is_absent-in-Some.ensures ∙ c.if-not-is_absent-2.false)
    (ap (λ (d : Cell). option_map (λ (q : NodeId). q.0) d.links.parent) told
    ∙ ap (option_map (λ (q : NodeId). q.0)) (sym c.parent_after.ensures ∙ c.unwrap-node-in-Some.ensures)))
