use Rattle.std.proofs.Common.{ap, ◌∙◌, arith}
use Rattle.stretches.specs.Slots.{lists_of}
use Rattle.stretches.proofs.Slots.Pooling.{pooled_closed, pooled_limits}
use Rattle.stretches.proofs.Slots.Seeing.{seen_removed, sees}
use Rattle.stretches.proofs.pool.Pool.close.Goals as goal

pub remove-leaf-requires : goal.remove-leaf-requires
remove-leaf-requires g c = let s = sees c.self.invariant c.self.view_is in omega (arith, s.count)

pub invariant_of-self : goal.invariant_of-self
invariant_of-self g c =
    let s = sees c.self.invariant c.self.view_is in
    let i = c.self.inside in
    let leaf = c.remove-leaf.result in
    rw (c.push_reserved.ensures.items, c.remove-leaf.ensures.items)
    (pooled_limits (pooled_closed i.cells.items i.used.items i.spare.items i.limit _ _ _ c.self.invariant c.args.at leaf (omega (arith, s.count)) c.remove-leaf.ensures.value)
    (omega arith) (omega (arith, c.remove-leaf.ensures.capacity)) (omega (arith, c.push_reserved.ensures.capacity)))

pub returns-clause-lists : goal.returns-clause-lists
returns-clause-lists g c =
    let i = c.self.inside in
    ap (lists_of i.cells.items) c.remove-leaf.ensures.items ∙ seen_removed i.cells.items i.used.items i.spare.items i.limit _ _ _ c.args.self.now c.self.invariant c.self.view_is c.args.at
