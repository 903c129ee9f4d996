use Rattle.std.proofs.Common.{subst, ◌≡◌}
use Rattle.std.specs.Prelude.{IfSome}
use Rattle.mixed_map.specs.Mixed.{Mixed}
use Rattle.mixed_map.specs.Place.{IsPlace}
use Rattle.mixed_map.specs.declared.place.Place.{Place}
use Rattle.mixed_map.proofs.mixed_map.MixedMap.recent_place.Goals as goal

pub returns : goal.returns
returns g c =
    subst (λ (v : Mixed _ _). IfSome c.recent_place.result (λ (p : Place). (p.number ≡ c.args.number) × IsPlace v.slots p)) c.self.view_is c.recent_place.ensures
