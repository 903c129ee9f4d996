use Rattle.std.proofs.Common.{ap, ◌∙◌, arith}
use Rattle.std.specs.FinMap as map
use Rattle.linear_index.specs.Entered.{Entered}
use Rattle.slab.specs.Slab.{Slab}
use Rattle.mixed_map.specs.Lone.{filled, Lone}
use Rattle.mixed_map.proofs.Filling.{filled_alike, seen}
use Rattle.mixed_map.proofs.lone_map.LoneMap.reserve.Goals as goal

pub returns-in_ok-reserve-clause-ok : goal.returns-in_ok-reserve-clause-ok
returns-in_ok-reserve-clause-ok g c =
    let places = ap (λ (e : Entered). e.places) c.in_ok-reserve.ensures.ok in
    let alike = ap (λ (s : Slab _). s.slots) c.in_ok-slots.ensures in
    let room = ap (λ (l : Lone _). l.room) c.self.view_is in
    seen _ _ _ _ _ _
    (ap (λ m. filled c.in_ok-slots.slots (map.entries m)) places
    ∙ filled_alike c.self.inside.slots c.in_ok-slots.slots c.self.inside.index.places alike
    ∙ ap (λ (l : Lone _). l.entries) c.self.view_is)
    (places ∙ ap (λ (l : Lone _). l.slots) c.self.view_is)
    (omega (arith, room, c.if-room-self.true))
