use Rattle.std.proofs.Common.{◌≡◌, ℕ, ◌≤◌, ◌==◌, cond, List, length, Option, Some, sym, ap, subst, ◌∙◌, arith}
use Rattle.std.proofs.lemmas.List.{with_items_is}
use Rattle.std.specs.Vec.{with_items}
use Rattle.std.specs.FinMap as map
use Rattle.linear_index.specs.declared.cell.Cell.{Cell}
use Rattle.linear_index.specs.Buckets.{IsIndexed}
use Rattle.linear_index.specs.Chains.{key_at}
use Rattle.linear_index.specs.Entered.{Entered, placed}
use Rattle.linear_index.proofs.Placed.{absent_at, free_at, inserted, IsMapOf, known, one_map, placed_is, same_entered}
use Rattle.linear_index.proofs.index.Index.enter.Goals as goal

-- the keys of cells that are made anew
renewed : (old mid cells : List Cell) (p : ℕ) → cells ≡ mid → ((q : ℕ) → key_at mid q ≡ key_at old q) → key_at cells p ≡ key_at old p
renewed old mid cells p is keys = ap (λ (l : List Cell). key_at l p) is ∙ keys p

pub put_in-requires-clause-free : goal.put_in-requires-clause-free
put_in-requires-clause-free c =
    let m = known c.self.inside.cells.items c.self.inside.room c.args.self.now c.self.invariant.hashed.once c.self.view_is in
    renewed c.self.inside.cells.items c.make_place-self-inside.new.cells.items c.deref_mut-2.result.now c.args.place c.deref_mut-2.ensures.value c.make_place-self-inside.ensures.keys
    ∙ free_at c.self.inside.cells.items c.args.self.now.places c.args.place m c.requires.free

pub put_in-requires-clause-new_key : goal.put_in-requires-clause-new_key
put_in-requires-clause-new_key c =
    let m = known c.self.inside.cells.items c.self.inside.room c.args.self.now c.self.invariant.hashed.once c.self.view_is in
    λ p e. absent_at c.self.inside.cells.items c.args.self.now.places c.args.key m c.requires.new_key p
    (sym (renewed c.self.inside.cells.items c.make_place-self-inside.new.cells.items c.deref_mut-2.result.now p c.deref_mut-2.ensures.value c.make_place-self-inside.ensures.keys) ∙ e)

pub invariant_of-self : goal.invariant_of-self
invariant_of-self c =
    let room : c.self.inside.room ≡ c.args.self.now.room = ap (λ (e : Entered). e.room) c.self.view_is in
    let heads = with_items_is c.make_place-self-inside.new.heads c.put_in.new.heads (omega arith) in
    let cells = with_items_is c.make_place-self-inside.new.cells c.put_in.new.cells (omega arith) in
    let few : length c.make_place-self-inside.new.cells.items ≤ c.self.inside.room = c.make_place-self-inside.ensures.few c.self.inside.room c.self.invariant.few (omega (arith, c.requires.room)) in
    let all : IsIndexed c.put_in.new.heads c.put_in.new.cells c.make_place-self-inside.result c.self.inside.room c.make_place-self-inside.new.heads.cap c.make_place-self-inside.new.cells.cap = record {
      hashed = c.put_in.ensures.hashed;
      few = omega arith;
      heads_room = omega (arith, c.self.invariant.heads_room, c.make_place-self-inside.ensures.heads_capacity);
      cells_room = omega (arith, c.self.invariant.cells_room, c.make_place-self-inside.ensures.cells_capacity);
    } in
    subst (λ (l : List (Option ℕ)). IsIndexed l (with_items c.make_place-self-inside.new.cells c.put_in.new.cells).items c.make_place-self-inside.result c.self.inside.room c.make_place-self-inside.new.heads.cap c.make_place-self-inside.new.cells.cap) (sym heads)
    (subst (λ (l : List Cell). IsIndexed c.put_in.new.heads l c.make_place-self-inside.result c.self.inside.room c.make_place-self-inside.new.heads.cap c.make_place-self-inside.new.cells.cap) (sym cells) all)

pub returns : goal.returns
returns c =
    let m = known c.self.inside.cells.items c.self.inside.room c.args.self.now c.self.invariant.hashed.once c.self.view_is in
    let cells = with_items_is c.make_place-self-inside.new.cells c.put_in.new.cells (omega arith) in
    let keys : (p : ℕ) → key_at c.put_in.new.cells p ≡ cond (p == c.args.place) (Some c.args.key) (key_at c.self.inside.cells.items p) = λ p. c.put_in.ensures.keys p
    ∙ ap (cond (p == c.args.place) (Some c.args.key)) (renewed c.self.inside.cells.items c.make_place-self-inside.new.cells.items c.deref_mut-2.result.now p c.deref_mut-2.ensures.value c.make_place-self-inside.ensures.keys) in
    let new : IsMapOf c.put_in.new.cells (map.insert c.args.self.now.places c.args.key c.args.place) = inserted c.self.inside.cells.items c.put_in.new.cells c.args.key c.args.place c.args.self.now.places m
    (free_at c.self.inside.cells.items c.args.self.now.places c.args.place m c.requires.free)
    (absent_at c.self.inside.cells.items c.args.self.now.places c.args.key m c.requires.new_key) keys in
    same_entered _ _ c.self.inside.room c.args.self.now.room
    (ap (placed 0) cells ∙ one_map c.put_in.new.cells _ _ (placed_is c.put_in.new.cells c.put_in.ensures.hashed.once) new)
    (ap (λ (e : Entered). e.room) c.self.view_is)
