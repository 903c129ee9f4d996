-- What a call of the ports may answer: what their machine answers, a mapper fault with its cause,
-- or want of memory.
use Rattle.std.specs.Prelude.{◌≡◌, ◌⊎◌, ◌<◌, length, slice_get, None, Ok, Err, IsSomeAnd}
use Rattle.vm_ids.specs.Counting.{MapperCounts}
use Rattle.vm_ids.specs.Held.{Segments}
use Rattle.vm_ids.specs.declared.command.Command.TheVariants.{Move}
use Rattle.vm_ids.specs.declared.command.PortCommand.{PortCommand}
use Rattle.vm_ids.specs.declared.command.PortCommand.TheVariants as commands
use Rattle.vm_ids.specs.declared.refusal.Refusal.TheVariants.{NoCache, OutOfCache}
use Rattle.vm_ids.specs.declared.reply.FaultAt.{FaultAt}
use Rattle.vm_ids.specs.declared.reply.Trouble.TheVariants as troubles
use Rattle.vm_model.specs.Answering.{Answer}
use Rattle.vm_model.specs.Outcome as plain
use Rattle.vm_model.specs.Outcome.{IsNotRefused, NotRefusedButFor}
use Rattle.transit_ipc.specs.Answering.{answer_of, span_to}
use Rattle.transit_ipc.specs.PortMachine.{Message, PortMachine, take_number, waiting}

-- Which faults a call may answer, at which page, and which of the mapper's counts rose with it
-- beside its faults. A receive may fail where a move to the same pages may. A message is of no
-- segment, so a send doesn't fail.
abbrev pub MayFault : PortMachine → PortCommand → Segments → FaultAt → MapperCounts → Type 0
MayFault m (commands.Receive port cache first) h at rises =
    IsSomeAnd (slice_get (waiting m port.0) 0) (λ (message : Message).
    plain.MayFault m.memory None (Move (span_to cache first (length message))) h at rises)
MayFault m (commands.Plain command) h at rises = plain.MayFault m.memory None command h at rises
MayFault m command h at rises = ⊥

-- the calls that take memory
abbrev pub MayLack : PortCommand → Type 0
MayLack (commands.Plain command) = plain.MayLackMemory command
MayLack command = Unit {0}

-- Nothing refuses the call, as far as is known before it takes memory: what it is to send, a send
-- looks up behind that.
abbrev pub GoesOn : PortCommand → Answer → Type 0
GoesOn (commands.Send port extent) (Err (troubles.Refused NoCache)) = Unit {0}
GoesOn (commands.Send port extent) (Err (troubles.Refused OutOfCache)) = Unit {0}
GoesOn command answer = IsNotRefused answer

-- All stays; but a send may have taken the number of a cache.
abbrev pub Stays : PortMachine → PortCommand → PortMachine → Type 0
Stays m (commands.Send port extent) next = (next ≡ m) ⊎ (next ≡ take_number m)
Stays m command next = next ≡ m

-- The answer and the next machine are those of the machine; or it is a fault that has a cause; or
-- want of memory.
abbrev pub Outcome : PortMachine → PortCommand → Segments → Answer → PortMachine → MapperCounts
    → Type 0
Outcome m command h (Err (troubles.Mapper at)) next rises =
    (next ≡ m) × (0 < rises.faults) × MayFault m command h at rises
    × NotRefusedButFor at (answer_of m command h).answer
Outcome m command h (Err troubles.Memory) next rises =
    Stays m command next × MayLack command × GoesOn command (answer_of m command h).answer
Outcome m command h (Err (troubles.Refused r)) next rises =
    answer_of m command h ≡ record { answer = Err (troubles.Refused r); next = next }
Outcome m command h (Ok r) next rises =
    answer_of m command h ≡ record { answer = Ok r; next = next }
