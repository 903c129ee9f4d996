-- The laws of a run by events.
use Rattle.std.specs.Prelude.{List}
use Rattle.vm_model.specs.Run.{Read, State, command_semantics}
use Rattle.vm_model.specs.Steps.{Chain}
use Rattle.vm_model.specs.Events.{Event, RunOf, Stand, steps_of}
use Rattle.vm_model.specs.InOrder.{IsInOrder, answer_order}

-- However a run goes, its answers lead from one state to the next.
abbrev pub RunsAreChains : Type 0
RunsAreChains =
    (before : State) (reads : List Read) (events : List (Event Read))
    (after : Stand command_semantics) → RunOf command_semantics before reads events after
    → Chain command_semantics before (steps_of events) after.state

-- and wherever it ends, the lines are answered in order
abbrev pub RunsAreInOrder : Type 0
RunsAreInOrder =
    (before : State) (reads : List Read) (events : List (Event Read))
    (after : Stand command_semantics) → RunOf command_semantics before reads events after
    → IsInOrder command_semantics reads (answer_order command_semantics reads events after)
