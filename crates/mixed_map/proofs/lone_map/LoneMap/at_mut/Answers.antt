use Rattle.std.proofs.Common.{refl, ap, ◌∙◌}
use Rattle.std.specs.FinMap as map
use Rattle.slab.specs.Slab.{with_value}
use Rattle.slab.proofs.SlabLemmas.{Updates-with_value}
use Rattle.mixed_map.specs.Lone.{Lone}
use Rattle.mixed_map.proofs.Filling.{entry_at, filled_set, placed, seen}
use Rattle.mixed_map.proofs.Keeping.{alone, kept_set}
use Rattle.mixed_map.proofs.lone_map.LoneMap.at_mut.Goals as goal

pub invariant_of-self-lent : goal.invariant_of-self-lent
invariant_of-self-lent g c w =
    let slots = c.self.inside.slots in
    let places = c.self.inside.index.places in
    let k = c.self.invariant.1 in
    let at = placed slots places c.args.self.now _ c.self.view_is c.args.place.number c.args.place.slot c.requires in
    (c.self.invariant.0, kept_set places slots c.self.inside.room k c.args.place.slot w (k.within c.args.place.number c.args.place.slot at))

pub returns : goal.returns
returns g c =
    let n = c.args.place.number in
    let p = c.args.place.slot in
    let slots = c.self.inside.slots in
    let places = c.self.inside.index.places in
    let k = c.self.invariant.1 in
    let at = placed slots places c.args.self.now _ c.self.view_is n p c.requires in (
      (
        refl,
        λ w. seen _ _ _ _ _ _
            (filled_set slots (with_value slots p w) places n p (alone places slots c.self.inside.room k n p at) w at (Updates-with_value slots p w (k.within n p at))
            ∙ ap (λ (l : Lone _). map.insert l.entries n w) c.self.view_is)
            (ap (λ (l : Lone _). l.slots) c.self.view_is)
            (ap (λ (l : Lone _). l.room) c.self.view_is),
      ),
      record { writes_back = tt; entry = entry_at slots places c.args.self.now _ c.self.view_is n p c.requires ∙ c.index_mut.ensures.value },
    )
