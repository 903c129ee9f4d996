use Rattle.std.proofs.Common.{◌-◌, length, arith}
use Rattle.number_pool.proofs.Splits.{seen_count}
use Rattle.number_pool.proofs.pool.NumberPool.taken.Goals as goal

pub overflow_cast-result : goal.overflow_cast-result
overflow_cast-result c =
    let sound = c.self.invariant in let within = sound.within in let few = sound.few in
    omega (arith, c.len.ensures, c.self.inside.taken.ok.0)

pub returns : goal.returns
returns c =
    let taken = c.self.inside.taken.items in let counted = c.self.invariant.split.counted in
    rw (← c.self.view_is) (omega (arith, c.len.ensures, c.len-2.ensures, c.self.inside.taken.ok.0, c.self.inside.returned.ok.0, seen_count taken (c.self.inside.bound - length taken)))
