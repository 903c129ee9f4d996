use Rattle.std.proofs.Common.{◌∙◌, sym, arith}
use Rattle.stretches.proofs.Slots.Seeing.{sees}
use Rattle.stretches.proofs.pool.Pool.leaf.Goals as goal

pub index-requires : goal.index-requires
index-requires g c = let s = sees c.self.invariant c.self.view_is in omega (arith, s.count)

pub entries-requires : goal.entries-requires
entries-requires g c =
    let s = sees c.self.invariant c.self.view_is in
    rw c.deref.ensures.value (s.memory c.args.at c.index.result.now c.requires c.index.ensures)

pub returns-clause-entries : goal.returns-clause-entries
returns-clause-entries g c =
    let s = sees c.self.invariant c.self.view_is in
    c.entries.ensures.entries ∙ rw c.deref.ensures.value (sym (s.entries c.args.at c.index.result.now c.requires c.index.ensures))

pub returns-clause-few : goal.returns-clause-few
returns-clause-few g c =
    let s = sees c.self.invariant c.self.view_is in
    omega (arith, c.entries.ensures.len, (s.memory c.args.at c.index.result.now c.requires c.index.ensures).len)

pub returns-clause-next : goal.returns-clause-next
returns-clause-next g c = let s = sees c.self.invariant c.self.view_is in omega (arith, s.count)
