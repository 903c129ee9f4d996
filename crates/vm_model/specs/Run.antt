-- One answer after another of a manager: what there is between them, and what a script means to it.
use Rattle.std.specs.Prelude.{◌≡◌, ℕ, ◌≤◌, List, [], length, Option, Some, None, option_map, IfSome, Result, Ok, Err}
use Rattle.vm_ids.specs.Counting.{MapperCounts, Rise, no_counts}
use Rattle.vm_ids.specs.Held.{Held, Segments, segments_of}
use Rattle.vm_ids.specs.declared.command.Command.{Command}
use Rattle.vm_ids.specs.declared.command.Command.TheVariants as commands
use Rattle.vm_ids.specs.declared.refusal.Refusal.{Refusal}
use Rattle.vm_ids.specs.declared.reply.Reply.{Reply}
use Rattle.vm_ids.specs.declared.reply.Trouble.TheVariants.{Refused}
use Rattle.vm_model.specs.Machine.{Machine}
use Rattle.vm_model.specs.PageForest.{PageForest}
use Rattle.vm_model.specs.Answering.{Answer}
use Rattle.vm_model.specs.Following.{forest_after}
use Rattle.vm_model.specs.Asking.{ReachesMapper}
use Rattle.vm_model.specs.Outcome.{HasWholePages, OutcomeAt}
use Rattle.vm_model.specs.Pushing.{PushRule}
use Rattle.vm_model.specs.Synchronised.{IsSynchronised}
use Rattle.vm_model.specs.Steps.{Semantics}

-- What there is between two answers: the machine, the page forest where the manager tells it, and
-- the mapper's segments where they are told.
pub record State : Type 0 where
  pub machine : Machine
  pub forest : Option PageForest
  pub segments : Option Segments

-- One answer: what is pushed meanwhile, by how much the mapper's counts rise, and how the forest
-- follows. Where the segments are told, the machine's pages have all their bytes.
pub record AnswerIs (before : State) (command : Command) (answer : Answer) (pushes : List (ℕ × ℕ))
    (rises : MapperCounts) (after : State) : Type 0 where
  pub outcome : OutcomeAt after.segments before.machine before.forest command answer
      after.machine rises
  pub forest : after.forest
      ≡ option_map (λ f. forest_after f before.machine command answer after.machine) before.forest
  pub reaches : ReachesMapper command rises
  pub few : length pushes ≤ rises.pushes
  pub pushed : PushRule before.machine before.segments pushes after.segments
  pub synchronised : IsSynchronised before.machine after.segments command answer
  pub whole : IfSome after.segments (λ h. HasWholePages after.machine)

-- One call of a manager, which leads from one state to the next while the mapper's counts go from c
-- to d.
pub record CallIs (c d : MapperCounts) (before : State) (command : Command) (answer : Answer)
    (after : State) : Type 0 where
  pub pushes : List (ℕ × ℕ)
  pub rises : MapperCounts
  pub rose : Rise c d rises
  pub is : AnswerIs before command answer pushes rises after

-- what a manager and what its mapper tells stand for
abbrev pub state_of : {G : Type 0} → (G → Option Held → Machine)
    → (G → Option Held → Option PageForest) → G → Option Held → State
state_of machine forest gmi told =
    record { machine = machine gmi told; forest = forest gmi told; segments = segments_of told }

-- a line as it was read: a command, or why it is none
abbrev pub Read : Type 0
Read = Result Command Refusal

-- a line that is no command is refused and changes nothing
pub record NothingRead (before : State) (r : Refusal) (answer : Answer) (pushes : List (ℕ × ℕ))
    (rises : MapperCounts) (after : State) : Type 0 where
  pub same : after ≡ before
  pub refused : answer ≡ Err (Refused r)
  pub no_push : pushes ≡ []
  pub no_rise : rises ≡ no_counts

abbrev pub StepIs : State → Read → Answer → List (ℕ × ℕ) → MapperCounts → State → Type 0
StepIs before (Err r) answer pushes rises after = NothingRead before r answer pushes rises after
StepIs before (Ok command) answer pushes rises after =
    AnswerIs before command answer pushes rises after

-- The line is answered so. What is pushed meanwhile is free: it is what an eviction chooses.
abbrev pub IsAnswered : State → Read → Answer → MapperCounts → State → Type 0
IsAnswered before read answer rises after =
    (pushes : List (ℕ × ℕ)) × StepIs before read answer pushes rises after

-- the actor of a load or a store; none of any other line
abbrev pub actor_of_line : Read → Option ℕ
actor_of_line (Ok (commands.Load actor address length)) = Some actor.0
actor_of_line (Ok (commands.Store actor address piece)) = Some actor.0
actor_of_line read = None

-- Nothing refuses the command: this machine, or one with bytes for which it stands, would carry it
-- out.
pub record IsUnrefused (s : State) (command : Command) : Type 0 where
  pub reply : Reply
  pub next : Machine
  pub outcome : OutcomeAt s.segments s.machine s.forest command (Ok reply) next no_counts

abbrev pub Admits : State → Read → Type 0
Admits s (Ok command) = IsUnrefused s command
Admits s (Err r) = ⊥

-- what the commands of a script mean
abbrev pub command_semantics : Semantics
command_semantics = record {
  State = State;
  Read = Read;
  actor_of = actor_of_line;
  StepIs = IsAnswered;
  Admits = Admits;
}
