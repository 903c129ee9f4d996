-- Where a lone entry stands.
use Rattle.std.specs.Prelude.{◌≡◌, ℕ, Some}
use Rattle.std.specs.Ordering.{nat_cmp}
use Rattle.std.specs.FinMap.{FinMap}
use Rattle.std.specs.FinMap as map
use Rattle.mixed_map.specs.declared.place.Place.{Place}

-- the number of this place has its slot
abbrev pub IsPlace : FinMap nat_cmp ℕ → Place → Type 0
IsPlace slots p = map.get slots p.number ≡ Some p.slot
