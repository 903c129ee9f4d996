use Rattle.std.proofs.Common.{◌≡◌, ℕ, Option, sym, ap, subst, ◌∙◌, refl, arith}
use Rattle.stretches.specs.Stretches.{said}
use Rattle.local_cache.specs.Runs.{run}
use Rattle.std.specs.Prelude.{IsSome, is_some, option_map, unwrap_or}
use Rattle.std.specs.FinMap as map
use Rattle.vm_ids.specs.declared.numbers.NodeId.{NodeId}
use Rattle.local_cache.specs.Arena.{Cell, blank}
use Rattle.local_cache.specs.Looking.{IsOwner}
use Rattle.local_cache.specs.NodeCells.{cell_at}
use Rattle.local_cache.specs.NodeTable.{Table}
use Rattle.local_cache.specs.Own.{is_absent}
use Rattle.local_cache.proofs.WayUp.{has_parent, one_up, parent_owner, same_owner, way_falls}
use Rattle.local_cache.proofs.runs.node_table.NodeTable.search_owner.Goals as goal

pub returns-then-not-is_absent : goal.returns-then-not-is_absent
returns-then-not-is_absent c =
    let m = c.args.self.now.cells in
    let n = c.loop-place.node in
    let told : cell_at m n ≡ c.at-single.result.now =
    ap (λ (t : Table). cell_at t.cells n) (sym c.self.view_is) ∙ ap (λ (k : ℕ). cell_at c.self.inside.nodes.cells k) (sym c.in-Some.ensures.place.0) ∙ ap (λ (o : Option Cell). unwrap_or o blank) c.at-single.ensures in
    let here = c.loop-place.invariant c.requires.0 c.requires.1 in
    let P : ℕ → Type 0 = λ q. IsOwner m c.args.first q in
    subst P (same_owner m n c.requires.0 here (ap (λ (d : Cell). is_absent d.own) told ∙ ap is_absent (sym c.own.ensures) ∙ sym c.is_absent.ensures.absent ∙ c.if-not-is_absent.true)) c.requires.1

pub unwrap-node-requires : goal.unwrap-node-requires
unwrap-node-requires c =
    let m = c.args.self.now.cells in
    let n = c.loop-place.node in
    let told : cell_at m n ≡ c.at-single.result.now =
    ap (λ (t : Table). cell_at t.cells n) (sym c.self.view_is) ∙ ap (λ (k : ℕ). cell_at c.self.inside.nodes.cells k) (sym c.in-Some.ensures.place.0) ∙ ap (λ (o : Option Cell). unwrap_or o blank) c.at-single.ensures in
    let here = c.loop-place.invariant c.requires.0 c.requires.1 in
    ap is_some c.parent.ensures ∙ ap (λ (d : Cell). is_some d.links.parent) (sym told)
    ∙ has_parent m n c.requires.0 here (ap (λ (d : Cell). is_absent d.own) told ∙ ap is_absent (sym c.own.ensures) ∙ sym c.is_absent.ensures.absent ∙ c.if-not-is_absent.false)

pub loop-place-smaller-in-Some : goal.loop-place-smaller-in-Some
loop-place-smaller-in-Some c =
    let m = c.args.self.now.cells in
    let n = c.loop-place.node in
    let told : cell_at m n ≡ c.at-single.result.now =
    ap (λ (t : Table). cell_at t.cells n) (sym c.self.view_is) ∙ ap (λ (k : ℕ). cell_at c.self.inside.nodes.cells k) (sym c.in-Some.ensures.place.0) ∙ ap (λ (o : Option Cell). unwrap_or o blank) c.at-single.ensures in
    let here = c.loop-place.invariant c.requires.0 c.requires.1 in
    way_falls m n c.unwrap-node.result.0 c.requires.0
    (one_up m n c.unwrap-node.result.0 (ap (λ (d : Cell). is_absent d.own) told ∙ ap is_absent (sym c.own.ensures) ∙ sym c.is_absent.ensures.absent ∙ c.if-not-is_absent.false)
    (ap (λ (d : Cell). option_map (λ (q : NodeId). q.0) d.links.parent) told ∙ ap (option_map (λ (q : NodeId). q.0)) (sym c.parent.ensures ∙ c.unwrap-node.ensures)))
    here

pub loop-place-preserved-in-Some : goal.loop-place-preserved-in-Some
loop-place-preserved-in-Some c owner o =
    let m = c.args.self.now.cells in
    let n = c.loop-place.node in
    let told : cell_at m n ≡ c.at-single.result.now =
    ap (λ (t : Table). cell_at t.cells n) (sym c.self.view_is) ∙ ap (λ (k : ℕ). cell_at c.self.inside.nodes.cells k) (sym c.in-Some.ensures.place.0) ∙ ap (λ (o : Option Cell). unwrap_or o blank) c.at-single.ensures in
    let here = c.loop-place.invariant c.requires.0 c.requires.1 in
    parent_owner m n owner (c.loop-place.invariant owner o) c.unwrap-node.result.0 (ap (λ (d : Cell). is_absent d.own) told ∙ ap is_absent (sym c.own.ensures) ∙ sym c.is_absent.ensures.absent ∙ c.if-not-is_absent.false)
    (ap (λ (d : Cell). option_map (λ (q : NodeId). q.0) d.links.parent) told ∙ ap (option_map (λ (q : NodeId). q.0)) (sym c.parent.ensures ∙ c.unwrap-node.ensures))

pub way_up-requires-clause-told : goal.way_up-requires-clause-told
way_up-requires-clause-told c =
    let n = c.loop-place.node in
    let here = c.loop-place.invariant c.requires.0 c.requires.1 in
    let P : Table → Type 0 = λ t. IsSome (said run t.list n) in
    subst P c.self.view_is (c.in-None.ensures.none.1 (ap (λ (t : Table). is_some (map.get t.cells n)) c.self.view_is ∙ here.held 0 n (omega arith) refl))

pub loop-place-smaller : goal.loop-place-smaller
loop-place-smaller c =
    way_falls c.args.self.now.cells c.loop-place.node c.in-On.next c.requires.0 c.in-On.ensures (c.loop-place.invariant c.requires.0 c.requires.1)

pub loop-place-preserved : goal.loop-place-preserved
loop-place-preserved c owner o = (c.in-On.ensures owner (c.loop-place.invariant owner o)).0
