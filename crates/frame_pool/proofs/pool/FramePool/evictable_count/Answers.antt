use Rattle.std.proofs.Common.{Bool, List, length, ap, arith}
use Rattle.std.proofs.lemmas.List.Sums.{count_by-le-length}
use Rattle.frame_pool.specs.Pool.{frames_seen}
use Rattle.frame_pool.proofs.Evictable.{length-evictable_frames}
use Rattle.frame_pool.proofs.pool.FramePool.evictable_count.Goals as goal

pub overflow_cast-result : goal.overflow_cast-result
overflow_cast-result c =
    let few = c.self.invariant.sized.few in
    omega (arith, c.count.ensures, count_by-le-length (λ (m : Bool). m) c.self.inside.evictable, ap (λ (marks : List Bool). length marks) c.self.invariant.marked, length-evictable_frames (frames_seen c.self.inside))
