use Rattle.std.proofs.Common.{sym, subst}
use Rattle.seg_manager.specs.Ring.{IsRing, items_of}
use Rattle.seg_manager.proofs.Lookup.Rings.{ring_of, ring_roomy}
use Rattle.seg_manager.proofs.kept_caches.KeptCaches.reserve.Goals as goal

pub invariant_of-self : goal.invariant_of-self
invariant_of-self c =
    subst (λ l. IsRing l (items_of l)) (sym c.reserve.ensures.same)
    (ring_of (record c.self.inside.links { room = c.reserve.new.self.room }) (items_of c.self.inside.links) (ring_roomy c.self.inside.links c.reserve.new.self.room (items_of c.self.inside.links) c.self.invariant))

pub invariant_of-self-2 : goal.invariant_of-self-2
invariant_of-self-2 c =
    subst (λ l. IsRing l (items_of l)) (sym c.reserve.ensures.same)
    (ring_of (record c.self.inside.links { room = c.reserve.new.self.room }) (items_of c.self.inside.links) (ring_roomy c.self.inside.links c.reserve.new.self.room (items_of c.self.inside.links) c.self.invariant))
