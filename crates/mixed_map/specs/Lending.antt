-- An entry that stands alone, lent.
use Rattle.std.specs.Borrow.{Lends, Fml, RattleType, MutBor}
use Rattle.std.specs.FinMap as map
use Rattle.std.specs.declared.clone.Clone.{Ghosts as CloneGhosts}
use Rattle.stretches.specs.declared.says.Says.{Ghosts}
use Rattle.mixed_map.specs.declared.alone.Alone.{Ghosts as AloneGhosts}
use Rattle.mixed_map.specs.declared.place.Place.{Place}
use Rattle.mixed_map.specs.Lone.{Lone}
use Rattle.mixed_map.specs.Mixed.{Mixed}
use Rattle.mixed_map.specs.contracts.lone_map.LoneMap as lone_map
use Rattle.mixed_map.specs.contracts.mixed_map.MixedMap as mixed_map

-- the map ends with the last value behind r as the entry at the place
abbrev pub LendsAlone : (S : RattleType) → MutBor (Lone S.Denot) → Place → MutBor S.Denot → Fml
LendsAlone S m place r =
    Lends (lone_map.the_row S) S m r
    (λ w. record m.now { entries = map.insert m.now.entries place.number w })

abbrev pub LendsEntry : (V S : RattleType) → Ghosts V.Denot → AloneGhosts S.Denot V.Denot
    → CloneGhosts S.Denot → MutBor (Mixed V.Denot S.Denot) → Place → MutBor S.Denot → Fml
LendsEntry V S says alone clone m place r =
    Lends (mixed_map.the_row V S says alone clone) S m r
    (λ w. record m.now { cells = map.insert m.now.cells place.number w })
