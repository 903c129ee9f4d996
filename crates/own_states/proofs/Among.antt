-- States among kinds.
use Rattle.std.proofs.Common.{◌≡◌, true, Option, Some, None, refl}
use Rattle.std.specs.Prelude.{IsSome}
use Rattle.own_states.specs.declared.kinds.Kinds.{Kinds}
use Rattle.own_states.specs.declared.own.Own.{Own}
use Rattle.own_states.specs.declared.own.Own.TheVariants.{Plain as PlainOwn, Clean, Dirty, Slot}
use Rattle.own_states.specs.declared.own.Plain.TheVariants.{Absent, Zero, OnSegment}
use Rattle.own_states.specs.Kinds.{is_among}

-- a state of some kinds is one
pub among_some : (k : Kinds) (o : Option Own) → is_among k o ≡ true → IsSome o
among_some k None h = h
among_some k (Some s) h = refl

-- and each is of all kinds
abbrev pub all_kinds : Kinds
all_kinds = record { absent = true; zero = true; on_segment = true; clean = true; dirty = true; slot = true }

pub all_among : (o : Option Own) → IsSome o → is_among all_kinds o ≡ true
all_among None h = h
all_among (Some (PlainOwn Absent)) h = refl
all_among (Some (PlainOwn Zero)) h = refl
all_among (Some (PlainOwn OnSegment)) h = refl
all_among (Some Clean) h = refl
all_among (Some Dirty) h = refl
all_among (Some (Slot s)) h = refl
