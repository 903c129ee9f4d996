-- One answer after another of ports: what there is between two, and how one leads on.
use Rattle.std.specs.Prelude.{◌≡◌, [], map, Option, Some, None}
use Rattle.vm_ids.specs.Counting.{MapperCounts, no_counts}
use Rattle.vm_ids.specs.Held.{Segments}
use Rattle.vm_ids.specs.declared.command.PortCommand.{PortCommand}
use Rattle.vm_ids.specs.declared.command.PortCommand.TheVariants as commands
use Rattle.vm_model.specs.Answering.{Answer}
use Rattle.vm_model.specs.Asking.{ReachesMapper}
use Rattle.vm_model.specs.Machine.{Page}
use Rattle.vm_model.specs.Outcome.{HasWholePages, blank}
use Rattle.gmi_calls.specs.Untold.{UntoldStep}
use Rattle.transit_ipc.specs.Outcome.{Outcome}
use Rattle.transit_ipc.specs.PortMachine.{Message, Port, PortMachine}

-- What there is between two answers: the ports over plain caches, and the mapper's segments where
-- they are told.
pub record State : Type 0 where
  pub ports : PortMachine
  pub segments : Option Segments

abbrev pub no_bytes : Page → Page
no_bytes page = []

abbrev pub blank_message : Message → Message
blank_message message = map no_bytes message

abbrev pub blank_port : Port → Port
blank_port p = record p { messages = map blank_message p.messages }

-- the machine without the bytes of its pages
abbrev pub blank_ports : PortMachine → PortMachine
blank_ports m = record { memory = blank m.memory; ports = map blank_port m.ports }

-- the state without the bytes of its pages
abbrev pub forget : State → State
forget s = record s { ports = blank_ports s.ports }

-- a command of the manager finds all bytes of each page
abbrev pub FindsAllBytes : PortCommand → PortMachine → Type 0
FindsAllBytes (commands.Plain command) m = HasWholePages m.memory
FindsAllBytes command m = Unit {0}

-- One answer of ports with bytes, of which a load finds as many as it asks for.
pub record WholeStep (command : PortCommand) (rises : MapperCounts) (h : Segments) (before : State)
    (answer : Answer) (after : State) : Type 0 where
  pub bytes : FindsAllBytes command before.ports
  pub outcome : Outcome before.ports command h answer after.ports rises

-- One answer, where the mapper tells what it holds and where it doesn't.
abbrev pub StepAt : Option Segments → State → PortCommand → Answer → MapperCounts → State → Type 0
StepAt None before command answer rises after =
    UntoldStep forget (WholeStep command rises) before answer after
StepAt (Some h) before command answer rises after =
    Outcome before.ports command h answer after.ports rises

-- No count of the mapper rises at the making of a port, or at a command of the manager that takes
-- no mapper.
abbrev pub Reaches : PortCommand → MapperCounts → Type 0
Reaches (commands.Plain command) rises = ReachesMapper command rises
Reaches (commands.Port depth) rises = rises ≡ no_counts
Reaches command rises = Unit {0}

-- One answer of the ports over a manager. No segment changes.
pub record AnswerIs (before : State) (command : PortCommand) (answer : Answer)
    (rises : MapperCounts) (after : State) : Type 0 where
  pub reaches : Reaches command rises
  pub step : StepAt after.segments before command answer rises after
  pub segments : after.segments ≡ before.segments
