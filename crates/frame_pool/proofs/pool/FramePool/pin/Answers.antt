use Rattle.std.proofs.Common.{true, false, refl}
use Rattle.frame_pool.specs.Pool.{frames_seen, is_held}
use Rattle.frame_pool.proofs.Evictable.{and_pinned, held_inside, mark_within, pinned_changed}
use Rattle.frame_pool.proofs.pool.FramePool.pin.Goals as goal

pub put-requires : goal.put-requires
put-requires c = mark_within c.self.inside c.args.frame.0 c.self.invariant (held_inside c.self.inside c.args.self.now c.args.frame.0 c.self.view_is c.requires)

pub invariant_of-self : goal.invariant_of-self
invariant_of-self c =
    rw c.put.ensures
    (pinned_changed c.self.inside c.args.frame.0 _ true false c.self.invariant
    (held_inside c.self.inside c.args.self.now c.args.frame.0 c.self.view_is c.requires)
    refl (and_pinned (is_held (frames_seen c.self.inside) c.args.frame.0)))
