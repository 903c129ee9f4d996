-- What the lines of a script mean to a manager in which each live page has a page frame.
use Rattle.std.specs.Prelude.{◌≡◌, ℕ, Bool, true, false, List, Ok, Err, if◌then◌else◌}
use Rattle.vm_ids.specs.Counting.{MapperCounts, no_counts}
use Rattle.vm_ids.specs.declared.command.Command.{Command}
use Rattle.vm_ids.specs.declared.command.Command.TheVariants as commands
use Rattle.vm_ids.specs.declared.refusal.Refusal.TheVariants.{BadLine, Full}
use Rattle.vm_ids.specs.declared.reply.Trouble.TheVariants.{Refused}
use Rattle.vm_model.specs.Answering.{Answer}
use Rattle.vm_model.specs.Run.{Read, State}
use Rattle.vm_model.specs.Steps.{Semantics}
use Rattle.actor_script.specs.Forms.{command_of}
use Rattle.flat_mm.specs.TwoManagers.{IsAnsweredWithin}
use Rattle.replay.specs.AtOnce.{Meaning, at_once}

-- the command asks for a page forest, which such a manager doesn't keep
abbrev pub asks_forest : Command → Bool
asks_forest (commands.Chain cache page) = true
asks_forest commands.Stat = true
asks_forest command = false

-- a line that asks for one is none of the forms
abbrev pub without_forest : Read → Read
without_forest (Err r) = Err r
without_forest (Ok command) = if asks_forest command then Err BadLine else Ok command

abbrev pub framed_command_of : List ℕ → Read
framed_command_of line = without_forest (command_of line)

-- no page came or went
abbrev NoPage : MapperCounts → Type 0
NoPage rises = (rises.pulls ≡ 0) × (rises.pushes ≡ 0)

-- with a load, a store, a lock and a page-out no page comes or goes
abbrev pub StaysInFrames : Command → MapperCounts → Type 0
StaysInFrames (commands.Load actor address bytes) rises = NoPage rises
StaysInFrames (commands.Store actor address piece) rises = NoPage rises
StaysInFrames (commands.Lock region) rises = NoPage rises
StaysInFrames (commands.PageOut count) rises = NoPage rises
StaysInFrames command rises = Unit {0}

-- with `Full` no count of the mapper rises
abbrev pub IsQuietlyFull : Answer → MapperCounts → Type 0
IsQuietlyFull (Err (Refused Full)) rises = rises ≡ no_counts
IsQuietlyFull answer rises = Unit {0}

-- A command is answered as by the machine, or `Full` exactly where more pages are asked than frames
-- are left; with a load, a store, a lock or a page-out no page comes or goes.
pub record IsFramedAnswer (before : State) (command : Command) (answer : Answer)
    (rises : MapperCounts) (after : State) : Type 0 where
  pub within : IsAnsweredWithin before (Ok command) answer rises after
  pub quiet : IsQuietlyFull answer rises
  pub stays : StaysInFrames command rises

-- what its commands mean
abbrev pub framed_meaning : Meaning Command
framed_meaning = record { State = State; Is = IsFramedAnswer }

abbrev pub framed_semantics : Semantics
framed_semantics = at_once framed_meaning
