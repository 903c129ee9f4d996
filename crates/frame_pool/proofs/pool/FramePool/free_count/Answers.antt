use Rattle.std.proofs.Common.{arith}
use Rattle.frame_pool.proofs.Evictable.{free_by}
use Rattle.frame_pool.proofs.pool.FramePool.free_count.Goals as goal

pub returns : goal.returns
returns c = rw (← c.self.view_is) (omega (arith, c.bound.ensures, c.taken.ensures, free_by c.self.inside.held))
