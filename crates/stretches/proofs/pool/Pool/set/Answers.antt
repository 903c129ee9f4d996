use Rattle.std.proofs.Common.{List, set, sym, ap, subst, ◌∙◌, arith}
use Rattle.stretches.specs.Slots.{KeepsOthers, lists_of}
use Rattle.stretches.proofs.Slots.Seeing.{given_back, seen_same, sees}
use Rattle.stretches.proofs.pool.Pool.set.Goals as goal

pub index-requires : goal.index-requires
index-requires g c = let s = sees c.self.invariant c.self.view_is in omega (arith, s.count)

pub set-requires-clause-memory : goal.set-requires-clause-memory
set-requires-clause-memory g c =
    let s = sees c.self.invariant c.self.view_is in
    rw c.deref_mut.ensures.value (s.memory c.args.at c.index.result.now c.requires.leaf c.index.ensures)

pub set-requires-clause-place : goal.set-requires-clause-place
set-requires-clause-place g c =
    let s = sees c.self.invariant c.self.view_is in
    omega (arith, s.len c.args.at c.index.result.now c.requires.leaf c.index.ensures)

pub returns-clause-lists : goal.returns-clause-lists
returns-clause-lists g c =
    let s = sees c.self.invariant c.self.view_is in
    let i = c.self.inside in
    let at = c.args.at in
    let leaf = c.index.result.now in
    let after = c.set.new.cells in
    let keeps : KeepsOthers i.cells.items after leaf.slot = subst (λ (q : List _). KeepsOthers q after leaf.slot) c.deref_mut.ensures.value c.set.ensures.others in
    ap (λ (q : List _). lists_of q i.used.items) (given_back after i.cells.items i.cells.len (omega (arith, c.set.ensures.len, c.deref_mut.ensures.len)))
    ∙ seen_same i.cells.items i.used.items i.spare.items i.limit _ _ _ c.args.self.now c.self.invariant c.self.view_is after at leaf (omega (arith, s.count)) c.index.ensures keeps
    ∙ ap (λ (q : List _). set c.args.self.now.lists at q) (c.set.ensures.entries ∙ ap (λ (q : List _). set q c.args.place c.args.entry) (rw c.deref_mut.ensures.value (sym (s.entries at leaf c.requires.leaf c.index.ensures))))
