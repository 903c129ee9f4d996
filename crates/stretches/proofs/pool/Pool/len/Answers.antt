use Rattle.std.proofs.Common.{arith}
use Rattle.stretches.proofs.Slots.Seeing.{sees}
use Rattle.stretches.proofs.pool.Pool.len.Goals as goal

pub returns : goal.returns
returns g c = let s = sees c.self.invariant c.self.view_is in omega (arith, s.count)
