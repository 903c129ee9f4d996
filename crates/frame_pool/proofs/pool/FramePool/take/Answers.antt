use Rattle.std.proofs.Common.{◌<◌, Bool, true, false, not, length, ap, sym, arith}
use Rattle.std.proofs.lemmas.List.{get_or_read}
use Rattle.frame_pool.proofs.Evictable.{held_changed, mark_within}
use Rattle.frame_pool.proofs.pool.FramePool.take.Goals as goal

pub put-requires : goal.put-requires
put-requires c = mark_within c.self.inside c.in_ok-number.number c.self.invariant c.in_ok-number.ensures.0

pub invariant_of-self-2 : goal.invariant_of-self-2
invariant_of-self-2 c =
    let number = c.in_ok-number.number in
    let pinned = c.self.inside.pinned.items in
    let within : number < length pinned = let long = c.self.invariant.sized.pinned in omega (arith, c.in_ok-number.ensures.0) in
    rw (c.in_ok-number.ensures.2, c.put.ensures)
    (held_changed c.self.inside number true (not c.index.result.now) c.self.invariant c.in_ok-number.ensures.0
    (ap (λ (p : Bool). not p) (sym (get_or_read pinned number c.index.result.now within c.index.ensures false))))
