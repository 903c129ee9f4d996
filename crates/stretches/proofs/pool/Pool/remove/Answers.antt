use Rattle.std.proofs.Common.{◌≡◌, List, length, get_or, set, sym, ap, subst, ◌∙◌, arith}
use Rattle.std.specs.List.{remove}
use Rattle.std.specs.Vec.{vec_capacity}
use Rattle.stretches.specs.declared.leaf.Leaf.{Leaf}
use Rattle.stretches.specs.Slots.{ArePooled, KeepsOthers, lists_of}
use Rattle.stretches.proofs.Slots.Pooling.{pooled_set}
use Rattle.stretches.proofs.Slots.Seeing.{given_back, seen_set, sees}
use Rattle.stretches.proofs.pool.Pool.remove.Goals as goal

pub index-leaf-requires : goal.index-leaf-requires
index-leaf-requires g c = let s = sees c.self.invariant c.self.view_is in omega (arith, s.count)

pub entries-requires : goal.entries-requires
entries-requires g c =
    let s = sees c.self.invariant c.self.view_is in
    rw c.deref.ensures.value (s.memory c.args.at c.index-leaf.result.now c.requires.leaf c.index-leaf.ensures)

pub offset_bounds-entries-place : goal.offset_bounds-entries-place
offset_bounds-entries-place g c =
    let s = sees c.self.invariant c.self.view_is in
    omega (arith, c.entries.ensures.len, s.len c.args.at c.index-leaf.result.now c.requires.leaf c.index-leaf.ensures)

pub bounds-entries-place : goal.bounds-entries-place
bounds-entries-place g c =
    let s = sees c.self.invariant c.self.view_is in
    omega (arith, c.entries.ensures.len, s.len c.args.at c.index-leaf.result.now c.requires.leaf c.index-leaf.ensures)

pub remove-requires-clause-memory : goal.remove-requires-clause-memory
remove-requires-clause-memory g c =
    let s = sees c.self.invariant c.self.view_is in
    rw c.deref_mut.ensures.value (s.memory c.args.at c.index-leaf.result.now c.requires.leaf c.index-leaf.ensures)

pub remove-requires-clause-place : goal.remove-requires-clause-place
remove-requires-clause-place g c =
    let s = sees c.self.invariant c.self.view_is in
    omega (arith, s.len c.args.at c.index-leaf.result.now c.requires.leaf c.index-leaf.ensures)

pub index_mut-requires : goal.index_mut-requires
index_mut-requires g c = let s = sees c.self.invariant c.self.view_is in omega (arith, s.count)

pub invariant_of-self : goal.invariant_of-self
invariant_of-self g c =
    let s = sees c.self.invariant c.self.view_is in
    let i = c.self.inside in
    let leaf = c.index-leaf.result.now in
    let after = c.remove.new.cells in
    let shorter = c.remove.result in
    let length_same : length after ≡ i.cells.len = omega (arith, c.remove.ensures.len, c.deref_mut.ensures.len) in
    subst (λ (q : List _). ArePooled q (set i.used.items c.args.at shorter) i.spare.items i.limit i.cells.cap i.used.cap (vec_capacity i.spare)) (sym (given_back after i.cells.items i.cells.len length_same))
    (pooled_set i.cells.items i.used.items i.spare.items i.limit _ _ _ c.self.invariant after c.args.at leaf shorter (omega (arith, length_same)) (omega (arith, s.count)) c.index-leaf.ensures (ap (λ (q : Leaf). q.slot) c.remove.ensures.leaf) (omega (arith, ap (λ (q : Leaf). q.len) c.remove.ensures.leaf, (s.memory c.args.at leaf c.requires.leaf c.index-leaf.ensures).len)))

pub returns-clause-entry : goal.returns-clause-entry
returns-clause-entry g c =
    let s = sees c.self.invariant c.self.view_is in
    c.index-entries-place.is
    ∙ ap (λ (q : List _). get_or q c.args.place c.index-entries-place.result) (c.entries.ensures.entries ∙ rw c.deref.ensures.value (sym (s.entries c.args.at c.index-leaf.result.now c.requires.leaf c.index-leaf.ensures)))

pub returns-clause-lists : goal.returns-clause-lists
returns-clause-lists g c =
    let s = sees c.self.invariant c.self.view_is in
    let i = c.self.inside in
    let at = c.args.at in
    let leaf = c.index-leaf.result.now in
    let after = c.remove.new.cells in
    let shorter = c.remove.result in
    let keeps : KeepsOthers i.cells.items after leaf.slot = subst (λ (q : List _). KeepsOthers q after leaf.slot) c.deref_mut.ensures.value c.remove.ensures.others in
    ap (λ (q : List _). lists_of q (set i.used.items at shorter)) (given_back after i.cells.items i.cells.len (omega (arith, c.remove.ensures.len, c.deref_mut.ensures.len)))
    ∙ seen_set i.cells.items i.used.items i.spare.items i.limit _ _ _ c.args.self.now c.self.invariant c.self.view_is after at leaf shorter (omega (arith, s.count)) c.index-leaf.ensures keeps
    ∙ ap (λ (q : List _). set c.args.self.now.lists at q) (c.remove.ensures.entries ∙ ap (λ (q : List _). remove q c.args.place) (rw c.deref_mut.ensures.value (sym (s.entries at leaf c.requires.leaf c.index-leaf.ensures))))
