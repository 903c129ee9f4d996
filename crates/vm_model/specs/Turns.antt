-- When a dispatcher is asked in a run, and what it answers.
use Rattle.std.specs.Prelude.{ℕ, ◌+◌, ◌-◌, List, [], ◌∷◌, length, Option, None}
use Rattle.vm_model.specs.Events.{Event}
use Rattle.vm_model.specs.Events.Event.{line, park, pause, delivery}

-- Its turns in order: how many accesses were parked when it was asked, and what it answered. So
-- many are parked at first.
abbrev pub turns_of : {Read : Type 0} → ℕ → List (Event Read) → List (ℕ × Option ℕ)
turns_of parked [] = []
turns_of parked (line step ∷ events) = turns_of parked events
turns_of parked (park number read ∷ events) = turns_of (parked + 1) events
turns_of parked (pause ∷ events) = (parked, None) ∷ turns_of parked events
turns_of parked (delivery turn place first others ∷ events) =
    (parked, turn) ∷ turns_of (parked - (length others + 1)) events
