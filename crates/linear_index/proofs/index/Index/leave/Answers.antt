use Rattle.std.proofs.Common.{◌≡◌, ℕ, ◌==◌, cond, List, None, ap, ◌∙◌, arith}
use Rattle.std.proofs.lemmas.List.{with_items_is}
use Rattle.std.specs.FinMap as map
use Rattle.linear_index.specs.declared.cell.Cell.{Cell}
use Rattle.linear_index.specs.Chains.{key_at}
use Rattle.linear_index.specs.Entered.{Entered, placed}
use Rattle.linear_index.proofs.Placed.{IsMapOf, known, one_map, placed_is, removed, same_entered}
use Rattle.linear_index.proofs.index.Index.leave.Goals as goal

pub take_out-requires-clause-entered : goal.take_out-requires-clause-entered
take_out-requires-clause-entered c =
    let m = known c.self.inside.cells.items c.self.inside.room c.args.self.now c.self.invariant.hashed.once c.self.view_is in
    ap (λ (l : List Cell). key_at l c.args.place) c.deref_mut-2.ensures.value ∙ m.found c.args.key c.args.place c.requires

pub returns : goal.returns
returns c =
    let m = known c.self.inside.cells.items c.self.inside.room c.args.self.now c.self.invariant.hashed.once c.self.view_is in
    let cells = with_items_is c.self.inside.cells c.take_out.new.cells (omega arith) in
    let keys : (p : ℕ) → key_at c.take_out.new.cells p ≡ cond (p == c.args.place) None (key_at c.self.inside.cells.items p) = λ p. c.take_out.ensures.keys p
    ∙ ap (λ (l : List Cell). cond (p == c.args.place) None (key_at l p)) c.deref_mut-2.ensures.value in
    let new : IsMapOf c.take_out.new.cells (map.remove c.args.self.now.places c.args.key) = removed c.self.inside.cells.items c.take_out.new.cells c.args.key c.args.place c.args.self.now.places m (m.found c.args.key c.args.place c.requires) keys in
    same_entered _ _ c.self.inside.room c.args.self.now.room
    (ap (placed 0) cells ∙ one_map c.take_out.new.cells _ _ (placed_is c.take_out.new.cells c.take_out.ensures.hashed.once) new)
    (ap (λ (e : Entered). e.room) c.self.view_is)
