use Rattle.std.proofs.Common.{false, refl}
use Rattle.frame_pool.proofs.Evictable.{held_changed, held_within, mark_within}
use Rattle.frame_pool.proofs.pool.FramePool.give_back.Goals as goal

pub put-requires : goal.put-requires
put-requires c = mark_within c.self.inside c.args.frame.0 c.self.invariant (held_within c.self.inside c.args.self.now c.args.frame.0 c.self.view_is c.requires.held)

pub invariant_of-self : goal.invariant_of-self
invariant_of-self c =
    rw (c.give_back.ensures, c.put.ensures)
    (held_changed c.self.inside c.args.frame.0 false false c.self.invariant
    (held_within c.self.inside c.args.self.now c.args.frame.0 c.self.view_is c.requires.held) refl)
