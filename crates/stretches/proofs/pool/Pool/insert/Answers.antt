use Rattle.std.proofs.Common.{◌≡◌, List, length, set, sym, ap, subst, ◌∙◌, arith}
use Rattle.std.specs.List.{insert}
use Rattle.std.specs.Vec.{vec_capacity}
use Rattle.stretches.specs.declared.leaf.Leaf.{Leaf}
use Rattle.stretches.specs.Slots.{ArePooled, KeepsOthers, lists_of}
use Rattle.stretches.proofs.Slots.Pooling.{pooled_set}
use Rattle.stretches.proofs.Slots.Seeing.{given_back, seen_set, sees}
use Rattle.stretches.proofs.pool.Pool.insert.Goals as goal

pub index-requires : goal.index-requires
index-requires g c = let s = sees c.self.invariant c.self.view_is in omega (arith, s.count)

pub insert-requires-clause-memory : goal.insert-requires-clause-memory
insert-requires-clause-memory g c =
    let s = sees c.self.invariant c.self.view_is in
    rw c.deref_mut.ensures.value (s.memory c.args.at c.index.result.now c.requires.leaf c.index.ensures)

pub insert-requires-clause-place : goal.insert-requires-clause-place
insert-requires-clause-place g c =
    let s = sees c.self.invariant c.self.view_is in
    omega (arith, s.len c.args.at c.index.result.now c.requires.leaf c.index.ensures)

pub insert-requires-clause-room : goal.insert-requires-clause-room
insert-requires-clause-room g c =
    let s = sees c.self.invariant c.self.view_is in
    omega (arith, s.len c.args.at c.index.result.now c.requires.leaf c.index.ensures)

pub index_mut-requires : goal.index_mut-requires
index_mut-requires g c = let s = sees c.self.invariant c.self.view_is in omega (arith, s.count)

pub invariant_of-self : goal.invariant_of-self
invariant_of-self g c =
    let s = sees c.self.invariant c.self.view_is in
    let i = c.self.inside in
    let leaf = c.index.result.now in
    let after = c.insert.new.cells in
    let longer = c.insert.result in
    let length_same : length after ≡ i.cells.len = omega (arith, c.insert.ensures.len, c.deref_mut.ensures.len) in
    subst (λ (q : List _). ArePooled q (set i.used.items c.args.at longer) i.spare.items i.limit i.cells.cap i.used.cap (vec_capacity i.spare)) (sym (given_back after i.cells.items i.cells.len length_same))
    (pooled_set i.cells.items i.used.items i.spare.items i.limit _ _ _ c.self.invariant after c.args.at leaf longer (omega (arith, length_same)) (omega (arith, s.count)) c.index.ensures (ap (λ (q : Leaf). q.slot) c.insert.ensures.leaf) (omega (arith, ap (λ (q : Leaf). q.len) c.insert.ensures.leaf, s.len c.args.at leaf c.requires.leaf c.index.ensures)))

pub returns-clause-lists : goal.returns-clause-lists
returns-clause-lists g c =
    let s = sees c.self.invariant c.self.view_is in
    let i = c.self.inside in
    let at = c.args.at in
    let leaf = c.index.result.now in
    let after = c.insert.new.cells in
    let longer = c.insert.result in
    let keeps : KeepsOthers i.cells.items after leaf.slot = subst (λ (q : List _). KeepsOthers q after leaf.slot) c.deref_mut.ensures.value c.insert.ensures.others in
    ap (λ (q : List _). lists_of q (set i.used.items at longer)) (given_back after i.cells.items i.cells.len (omega (arith, c.insert.ensures.len, c.deref_mut.ensures.len)))
    ∙ seen_set i.cells.items i.used.items i.spare.items i.limit _ _ _ c.args.self.now c.self.invariant c.self.view_is after at leaf longer (omega (arith, s.count)) c.index.ensures keeps
    ∙ ap (λ (q : List _). set c.args.self.now.lists at q) (c.insert.ensures.entries ∙ ap (λ (q : List _). insert q c.args.place c.args.entry) (rw c.deref_mut.ensures.value (sym (s.entries at leaf c.requires.leaf c.index.ensures))))
