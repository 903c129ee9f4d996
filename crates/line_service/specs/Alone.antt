-- A script without accesses.
use Rattle.std.specs.Prelude.{◌≡◌, List, None, take}
use Rattle.vm_model.specs.Events.{Event, RunOf, Stand, steps_of}
use Rattle.vm_model.specs.Steps.{Semantics, lines_answered, numbered_from}

-- Where no line is an access, however a run goes, its lines are answered one after another.
abbrev pub LinesAlone : Semantics → Type 0
LinesAlone S =
    ((read : S.Read) → S.actor_of read ≡ None)
    → (before : S.State) (reads : List S.Read) (events : List (Event S.Read)) (after : Stand S)
    → RunOf S before reads events after
    → lines_answered (steps_of events) ≡ take after.issued (numbered_from 1 reads)
