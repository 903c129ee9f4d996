use Rattle.std.proofs.Common.{◌≡◌, ℕ, ◌+◌, List, length, refl, ap, ◌∙◌, arith, replicate}
use Rattle.std.proofs.lemmas.List.{append-nil, length-append, length-replicate}
use Rattle.stretches.specs.declared.leaf.Leaf.{Leaf}
use Rattle.stretches.specs.Slots.{lists_of}
use Rattle.stretches.proofs.Slots.Pooling.{pooled_limits, pooled_more, pooled_opened}
use Rattle.stretches.proofs.Slots.Seeing.{seen_more, seen_opened, sees}
use Rattle.stretches.proofs.pool.Pool.open.Goals as goal

pub put_leaf-requires-clause-within : goal.put_leaf-requires-clause-within
put_leaf-requires-clause-within g c = let s = sees c.self.invariant c.self.view_is in omega (arith, s.count)

pub invariant_of-self : goal.invariant_of-self
invariant_of-self g c =
    let s = sees c.self.invariant c.self.view_is in
    let i = c.self.inside in
    let leaf : Leaf = record { slot = c.in-Some.leaf.slot; len = 0 } in
    rw c.put_leaf.ensures.leaves
    (pooled_limits (pooled_opened i.cells.items i.used.items i.spare.items i.limit _ _ _ c.self.invariant c.args.at c.in-Some.leaf leaf c.pop.new.self.items c.in-Some.ensures.items (omega (arith, s.count)) refl (omega arith))
    (omega arith) (omega (arith, c.put_leaf.ensures.capacity)) (omega (arith, c.pop.ensures.capacity)))

pub add_slot-requires : goal.add_slot-requires
add_slot-requires g c =
    let s = sees c.self.invariant c.self.view_is in
    let none = c.in-None.ensures.cases.0 in
    let limit = ap (λ (v : _). v.limit) c.self.view_is in
    omega (arith, s.count, none, limit, c.requires.room)

pub put_leaf-requires-in-None-clause-within : goal.put_leaf-requires-in-None-clause-within
put_leaf-requires-in-None-clause-within g c = let s = sees c.self.invariant c.self.view_is in omega (arith, s.count)

pub put_leaf-requires-in-None-clause-room : goal.put_leaf-requires-in-None-clause-room
put_leaf-requires-in-None-clause-room g c =
    let s = sees c.self.invariant c.self.view_is in
    let limit = ap (λ (v : _). v.limit) c.self.view_is in
    omega (arith, s.count, limit, c.requires.room)

pub invariant_of-self-in-None : goal.invariant_of-self-in-None
invariant_of-self-in-None g c =
    let s = sees c.self.invariant c.self.view_is in
    let i = c.self.inside in
    let limit = ap (λ (v : _). v.limit) c.self.view_is in
    let leaf : Leaf = record { slot = c.len-slot.result; len = 0 } in
    let none : i.spare.items ≡ c.pop.new.self.items = c.in-None.ensures.items ∙ append-nil c.pop.new.self.items in
    let longer : length c.add_slot.new.cells.items ≡ length i.cells.items + 128 = ap length c.add_slot.ensures.cells ∙ length-append i.cells.items (replicate 128 c.args.value) ∙ ap (λ (n : ℕ). length i.cells.items + n) (length-replicate 128 c.args.value) in
    rw (c.put_leaf-in-None.ensures.leaves, ← none)
    (pooled_limits (pooled_more i.cells.items i.used.items i.spare.items i.limit _ _ _ c.self.invariant c.add_slot.new.cells.items _ c.args.at leaf c.add_slot.ensures.capacity (omega (arith, c.in-None.ensures.cases.0)) longer (omega (arith, s.count)) (omega (arith, c.len-slot.ensures)) (omega arith) (omega (arith, s.count, limit, c.requires.room)))
    (omega arith) (omega (arith, c.put_leaf-in-None.ensures.capacity)) (omega (arith, c.pop.ensures.capacity)))

pub returns-in-Some-clause-lists : goal.returns-in-Some-clause-lists
returns-in-Some-clause-lists g c =
    let i = c.self.inside in
    ap (lists_of i.cells.items) c.put_leaf.ensures.leaves
    ∙ seen_opened i.cells.items i.used.items i.spare.items i.limit _ _ _ c.args.self.now c.self.invariant c.self.view_is i.cells.items c.args.at (record { slot = c.in-Some.leaf.slot; len = 0 }) refl refl

pub returns-in-None-clause-lists : goal.returns-in-None-clause-lists
returns-in-None-clause-lists g c =
    let i = c.self.inside in
    let more = replicate 128 c.args.value in
    let still : lists_of c.add_slot.new.cells.items i.used.items ≡ lists_of i.cells.items i.used.items =
    ap (λ (q : List _). lists_of q i.used.items) c.add_slot.ensures.cells ∙ seen_more i.cells.items i.used.items i.spare.items i.limit _ _ _ c.args.self.now c.self.invariant c.self.view_is more in
    ap (lists_of c.add_slot.new.cells.items) c.put_leaf-in-None.ensures.leaves
    ∙ seen_opened i.cells.items i.used.items i.spare.items i.limit _ _ _ c.args.self.now c.self.invariant c.self.view_is c.add_slot.new.cells.items c.args.at (record { slot = c.len-slot.result; len = 0 }) refl still
