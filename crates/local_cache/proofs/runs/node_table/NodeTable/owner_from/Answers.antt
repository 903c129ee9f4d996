use Rattle.std.proofs.Common.{◌≡◌, ℕ, Option, sym, ap, subst, ◌∙◌}
use Rattle.std.specs.Prelude.{is_some, option_map, unwrap_or}
use Rattle.vm_ids.specs.declared.numbers.NodeId.{NodeId}
use Rattle.local_cache.specs.Arena.{Cell, blank}
use Rattle.local_cache.specs.Looking.{IsOwner}
use Rattle.local_cache.specs.NodeCells.{cell_at}
use Rattle.local_cache.specs.NodeTable.{Table}
use Rattle.local_cache.specs.Own.{is_absent}
use Rattle.local_cache.proofs.WayUp.{has_parent, one_up, parent_owner, same_owner, way_falls}
use Rattle.local_cache.proofs.runs.node_table.NodeTable.owner_from.Goals as goal

pub returns-then-not-is_absent : goal.returns-then-not-is_absent
returns-then-not-is_absent c =
    let m = c.args.self.now.cells in
    let n = c.loop-single.node in
    let told : cell_at m n ≡ c.in-Some.single.now =
    ap (λ (t : Table). cell_at t.cells n) (sym c.self.view_is) ∙ ap (λ (o : Option Cell). unwrap_or o blank) c.in-Some.ensures.entry in
    let here = c.loop-single.invariant c.requires.0 c.requires.1 in
    let P : ℕ → Type 0 = λ q. IsOwner m c.args.first q in
    subst P (same_owner m n c.requires.0 here (ap (λ (d : Cell). is_absent d.own) told ∙ ap is_absent (sym c.own.ensures) ∙ sym c.is_absent.ensures.absent ∙ c.if-not-is_absent.true)) c.requires.1

pub unwrap-node-requires : goal.unwrap-node-requires
unwrap-node-requires c =
    let m = c.args.self.now.cells in
    let n = c.loop-single.node in
    let told : cell_at m n ≡ c.in-Some.single.now =
    ap (λ (t : Table). cell_at t.cells n) (sym c.self.view_is) ∙ ap (λ (o : Option Cell). unwrap_or o blank) c.in-Some.ensures.entry in
    let here = c.loop-single.invariant c.requires.0 c.requires.1 in
    ap is_some c.parent.ensures ∙ ap (λ (d : Cell). is_some d.links.parent) (sym told)
    ∙ has_parent m n c.requires.0 here (ap (λ (d : Cell). is_absent d.own) told ∙ ap is_absent (sym c.own.ensures) ∙ sym c.is_absent.ensures.absent ∙ c.if-not-is_absent.false)

pub loop-single-smaller : goal.loop-single-smaller
loop-single-smaller c =
    let m = c.args.self.now.cells in
    let n = c.loop-single.node in
    let told : cell_at m n ≡ c.in-Some.single.now =
    ap (λ (t : Table). cell_at t.cells n) (sym c.self.view_is) ∙ ap (λ (o : Option Cell). unwrap_or o blank) c.in-Some.ensures.entry in
    let here = c.loop-single.invariant c.requires.0 c.requires.1 in
    way_falls m n c.unwrap-node.result.0 c.requires.0
    (one_up m n c.unwrap-node.result.0 (ap (λ (d : Cell). is_absent d.own) told ∙ ap is_absent (sym c.own.ensures) ∙ sym c.is_absent.ensures.absent ∙ c.if-not-is_absent.false)
    (ap (λ (d : Cell). option_map (λ (q : NodeId). q.0) d.links.parent) told ∙ ap (option_map (λ (q : NodeId). q.0)) (sym c.parent.ensures ∙ c.unwrap-node.ensures)))
    here

pub loop-single-preserved : goal.loop-single-preserved
loop-single-preserved c owner o =
    let m = c.args.self.now.cells in
    let n = c.loop-single.node in
    let told : cell_at m n ≡ c.in-Some.single.now =
    ap (λ (t : Table). cell_at t.cells n) (sym c.self.view_is) ∙ ap (λ (o : Option Cell). unwrap_or o blank) c.in-Some.ensures.entry in
    let here = c.loop-single.invariant c.requires.0 c.requires.1 in
    parent_owner m n owner (c.loop-single.invariant owner o) c.unwrap-node.result.0 (ap (λ (d : Cell). is_absent d.own) told ∙ ap is_absent (sym c.own.ensures) ∙ sym c.is_absent.ensures.absent ∙ c.if-not-is_absent.false)
    (ap (λ (d : Cell). option_map (λ (q : NodeId). q.0) d.links.parent) told ∙ ap (option_map (λ (q : NodeId). q.0)) (sym c.parent.ensures ∙ c.unwrap-node.ensures))
