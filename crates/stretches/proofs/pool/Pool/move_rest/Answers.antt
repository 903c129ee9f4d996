use Rattle.std.proofs.Common.{◌≡◌, List, [], ◌++◌, length, get_or, set, take, drop, sym, ap, subst, ◌∙◌, arith}
use Rattle.std.specs.Vec.{vec_capacity}
use Rattle.stretches.specs.declared.leaf.Leaf.{Leaf}
use Rattle.stretches.specs.Slots.{ArePooled, KeepsOthers, leaf_of, lists_of}
use Rattle.stretches.proofs.Slots.Free.{apart_slots}
use Rattle.stretches.proofs.Slots.Pooling.{used_apart}
use Rattle.stretches.proofs.Slots.Seeing.{given_back, pooled_moved, seen_moved, sees}
use Rattle.stretches.proofs.pool.Pool.move_rest.Goals as goal

pub index-leaf-requires : goal.index-leaf-requires
index-leaf-requires g c = let s = sees c.self.invariant c.self.view_is in omega (arith, s.count)

pub index-requires : goal.index-requires
index-requires g c = let s = sees c.self.invariant c.self.view_is in omega (arith, s.count)

pub move_rest-requires-clause-memory : goal.move_rest-requires-clause-memory
move_rest-requires-clause-memory g c =
    let s = sees c.self.invariant c.self.view_is in
    rw c.deref_mut.ensures.value (s.memory c.args.at c.index-leaf.result.now c.requires.leaf c.index-leaf.ensures)

pub move_rest-requires-clause-other : goal.move_rest-requires-clause-other
move_rest-requires-clause-other g c =
    let s = sees c.self.invariant c.self.view_is in
    rw c.deref_mut.ensures.value (s.memory c.args.to c.index.result.now c.requires.other c.index.ensures)

pub move_rest-requires-clause-apart : goal.move_rest-requires-clause-apart
move_rest-requires-clause-apart g c =
    let s = sees c.self.invariant c.self.view_is in
    let i = c.self.inside in
    apart_slots i.used.items c.args.at c.args.to c.index-leaf.result.now c.index.result.now (omega (arith, s.count)) (omega (arith, s.count)) c.index-leaf.ensures c.index.ensures c.requires.apart (used_apart i.cells.items i.used.items i.spare.items i.limit _ _ _ c.self.invariant)

pub move_rest-requires-clause-place : goal.move_rest-requires-clause-place
move_rest-requires-clause-place g c =
    let s = sees c.self.invariant c.self.view_is in
    omega (arith, s.len c.args.at c.index-leaf.result.now c.requires.leaf c.index-leaf.ensures)

pub move_rest-requires-clause-room : goal.move_rest-requires-clause-room
move_rest-requires-clause-room g c =
    let s = sees c.self.invariant c.self.view_is in
    omega (arith, s.len c.args.at c.index-leaf.result.now c.requires.leaf c.index-leaf.ensures, s.len c.args.to c.index.result.now c.requires.other c.index.ensures)

pub index_mut-requires : goal.index_mut-requires
index_mut-requires g c = let s = sees c.self.invariant c.self.view_is in omega (arith, s.count)

pub index_mut-requires-2 : goal.index_mut-requires-2
index_mut-requires-2 g c = let s = sees c.self.invariant c.self.view_is in omega (arith, s.count)

pub invariant_of-self : goal.invariant_of-self
invariant_of-self g c =
    let s = sees c.self.invariant c.self.view_is in
    let i = c.self.inside in
    let leaf = c.index-leaf.result.now in
    let other = c.index.result.now in
    let after = c.move_rest.new.cells in
    let longer = c.move_rest.result in
    let length_same : length after ≡ i.cells.len = omega (arith, c.move_rest.ensures.len, c.deref_mut.ensures.len) in
    let keeps : KeepsOthers i.cells.items after other.slot = subst (λ (q : List _). KeepsOthers q after other.slot) c.deref_mut.ensures.value c.move_rest.ensures.others in
    let front = s.len c.args.at leaf c.requires.leaf c.index-leaf.ensures in
    let room = s.len c.args.to other c.requires.other c.index.ensures in
    subst (λ (q : List _). ArePooled q (set (set i.used.items c.args.to longer) c.args.at (record { slot = leaf.slot; len = c.args.place })) i.spare.items i.limit i.cells.cap i.used.cap (vec_capacity i.spare)) (sym (given_back after i.cells.items i.cells.len length_same))
    (pooled_moved i.cells.items i.used.items i.spare.items i.limit _ _ _ c.args.self.now c.self.invariant c.self.view_is after c.args.at c.args.place c.args.to leaf other longer (omega (arith, s.count)) (omega (arith, s.count)) c.requires.apart c.index-leaf.ensures c.index.ensures (omega (arith, front)) keeps (omega (arith, length_same)) (ap (λ (q : Leaf). q.slot) c.move_rest.ensures.leaf) (omega (arith, ap (λ (q : Leaf). q.len) c.move_rest.ensures.leaf, front, room)))

pub returns-clause-lists : goal.returns-clause-lists
returns-clause-lists g c =
    let s = sees c.self.invariant c.self.view_is in
    let i = c.self.inside in
    let v = c.args.self.now in
    let at = c.args.at in
    let to = c.args.to in
    let leaf = c.index-leaf.result.now in
    let other = c.index.result.now in
    let after = c.move_rest.new.cells in
    let longer = c.move_rest.result in
    let shorter : Leaf = record { slot = leaf.slot; len = c.args.place } in
    let length_same : length after ≡ i.cells.len = omega (arith, c.move_rest.ensures.len, c.deref_mut.ensures.len) in
    let keeps : KeepsOthers i.cells.items after other.slot = subst (λ (q : List _). KeepsOthers q after other.slot) c.deref_mut.ensures.value c.move_rest.ensures.others in
    let front = s.len at leaf c.requires.leaf c.index-leaf.ensures in
    let room = s.len to other c.requires.other c.index.ensures in
    let this : get_or v.lists at [] ≡ _ = s.entries at leaf c.requires.leaf c.index-leaf.ensures in
    let that : get_or v.lists to [] ≡ _ = s.entries to other c.requires.other c.index.ensures in
    ap (λ (q : List _). lists_of q (set (set i.used.items to longer) at shorter)) (given_back after i.cells.items i.cells.len length_same)
    ∙ seen_moved i.cells.items i.used.items i.spare.items i.limit _ _ _ v c.self.invariant c.self.view_is after at c.args.place to leaf other longer (omega (arith, s.count)) (omega (arith, s.count)) c.requires.apart c.index-leaf.ensures c.index.ensures (omega (arith, front)) keeps (omega (arith, length_same)) (ap (λ (q : Leaf). q.slot) c.move_rest.ensures.leaf) (omega (arith, ap (λ (q : Leaf). q.len) c.move_rest.ensures.leaf, front, room))
    ∙ ap (λ (q : List _). set (set v.lists to q) at (take c.args.place (leaf_of i.cells.items leaf)))
    (c.move_rest.ensures.entries ∙ rw c.deref_mut.ensures.value (rw (this, that)))
    ∙ ap (λ (q : List _). set (set v.lists to (get_or v.lists to [] ++ drop c.args.place (get_or v.lists at []))) at (take c.args.place q)) (sym this)
