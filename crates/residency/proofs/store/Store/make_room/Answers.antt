use Rattle.std.proofs.Common.{◌≡◌, ◌<◌, length, false, get_or}
use Rattle.residency.proofs.Moves.Claimed.{may_evict, took, freed}
use Rattle.residency.proofs.store.Store.make_room.Goals as goal

pub pick-victim-requires-clause-some : goal.pick-victim-requires-clause-some
pick-victim-requires-clause-some g c = may_evict c.args.self.now.frames c.requires.right.tied.fitted.pinned_frames c.requires.full c.requires.unpinned

pub unwrap-frame-requires : goal.unwrap-frame-requires
unwrap-frame-requires g c =
    let e : (c.pick-victim.result.0 < length c.evict.new.self.frames.held) × (get_or c.evict.new.self.frames.held c.pick-victim.result.0 false ≡ false)
    = freed c.args.self.now.frames c.pick-victim.result.0 c.evict.new.self.frames.held c.pick-victim.ensures.may c.in_ok-evict.ensures.free in
    took _ _ c.take.result c.evict.new.self.frames.held c.pick-victim.result.0 c.take.ensures e.0 e.1
