-- What lines mean that are answered one after another, each at once.
use Rattle.std.specs.Prelude.{◌≡◌, ℕ, Option, None, Result, Ok, Err}
use Rattle.vm_ids.specs.Counting.{MapperCounts, no_counts}
use Rattle.vm_ids.specs.declared.refusal.Refusal.{Refusal}
use Rattle.vm_ids.specs.declared.reply.Trouble.TheVariants.{Refused}
use Rattle.vm_model.specs.Answering.{Answer}
use Rattle.vm_model.specs.Steps.{Semantics}

-- a line as it was read: a command, or why it is none
abbrev pub Read : Type 0 → Type 0
Read Command = Result Command Refusal

-- The answer to a command in a state, by how much the mapper's counts rise, and the state after it.
abbrev pub Answering : Type 0 → Type 0 → Type 1
Answering State Command = State → Command → Answer → MapperCounts → State → Type 0

-- a line that is no command is refused and changes nothing
pub record NothingRead {State : Type 0} (before : State) (r : Refusal) (answer : Answer)
    (rises : MapperCounts) (after : State) : Type 0 where
  pub same : after ≡ before
  pub refused : answer ≡ Err (Refused r)
  pub no_rise : rises ≡ no_counts

-- The line is answered so, where commands are.
abbrev pub StepIs : {State Command : Type 0} → Answering State Command → State → Read Command
    → Answer → MapperCounts → State → Type 0
StepIs is before (Err r) answer rises after = NothingRead before r answer rises after
StepIs is before (Ok command) answer rises after = is before command answer rises after

-- What commands of a kind mean that are answered at once: the states, and how one is answered.
pub record Meaning (Command : Type 0) : Type 1 where
  pub State : Type 0
  pub Is : Answering State Command

-- no line is an access that waits
abbrev pub no_actor : {Command : Type 0} → Read Command → Option ℕ
no_actor read = None

abbrev pub NeverWaits : {State Command : Type 0} → State → Read Command → Type 0
NeverWaits state read = ⊥

-- what lines mean whose commands mean this
abbrev pub at_once : {Command : Type 0} → Meaning Command → Semantics
at_once {Command} meaning = record {
  State = meaning.State;
  Read = Read Command;
  actor_of = no_actor;
  StepIs = StepIs meaning.Is;
  Admits = NeverWaits;
}
