-- One answer after another of segments: what there is between two, and how one leads on.
use Rattle.std.specs.Prelude.{◌≡◌, ◌≤◌, ℕ, List, length, Option, Some, None, option_map, IfSome}
use Rattle.vm_ids.specs.Counting.{MapperCounts}
use Rattle.vm_ids.specs.Held.{Segments}
use Rattle.vm_ids.specs.declared.command.Command.TheVariants.{Load}
use Rattle.vm_ids.specs.declared.command.KeepCommand.{KeepCommand}
use Rattle.vm_ids.specs.declared.command.KeepCommand.TheVariants.{Plain}
use Rattle.vm_model.specs.Answering.{Answer}
use Rattle.vm_model.specs.Machine.{live_pages}
use Rattle.vm_model.specs.Outcome.{HasWholePages, blank}
use Rattle.vm_model.specs.PageForest.{PageForest}
use Rattle.vm_model.specs.Pushing.{PushRule}
use Rattle.vm_model.specs.declared.limits.TheConstants.{LIVE_PAGES}
use Rattle.gmi_calls.specs.Untold.{UntoldStep}
use Rattle.seg_manager.specs.Outcome.{Outcome}
use Rattle.seg_manager.specs.ReferenceMachine.{ReferenceMachine, let_go}

-- What there is between two answers: the segments that are referred to, and what the mapper's
-- segments hold where that is told.
pub record State : Type 0 where
  pub references : ReferenceMachine
  pub segments : Option Segments

-- what isn't known where nothing is told: the bytes, and what is stored
abbrev pub blank_references : ReferenceMachine → ReferenceMachine
blank_references m = record m { memory = blank m.memory; stored = λ seg. None }

abbrev pub forget : State → State
forget s = record s { references = blank_references s.references }

-- One answer of the machine. A new cache has this number; and where a save fails, this forest says
-- how many could be done before.
abbrev pub LeadsTo : Segments → State → KeepCommand → Answer → MapperCounts → State → Type 0
LeadsTo h before command answer rises after = (number : ℕ) × (forest : Option PageForest)
    × Outcome before.references forest command h number answer after.references rises

-- Of a load, which alone tells bytes, each page of the machine has all its bytes.
abbrev pub IsWholeFor : KeepCommand → ReferenceMachine → Type 0
IsWholeFor (Plain (Load actor address length)) m = HasWholePages m.memory
IsWholeFor command m = Unit {0}

-- One answer of a machine with bytes, where nothing is told.
abbrev pub LeadsWhole : Segments → State → KeepCommand → Answer → MapperCounts → State → Type 0
LeadsWhole h whole command answer rises next =
    IsWholeFor command whole.references × LeadsTo h whole command answer rises next

-- One answer, where the mapper tells what it holds and where it doesn't.
abbrev pub StepAt : Option Segments → State → KeepCommand → Answer → MapperCounts → State → Type 0
StepAt None before command answer rises after =
    UntoldStep forget (λ h whole a next. LeadsWhole h whole command a rises next) before answer
    after
StepAt (Some h) before command answer rises after = LeadsTo h before command answer rises after

-- What is pushed to segments in the course of an answer: pages of caches, as they were before it.
-- There were those that are referred to, and others to which nothing refers any more.
pub record Pushed (before : State) (rises : MapperCounts) (after : State) : Type 0 where
  pub all : ReferenceMachine
  pub pushes : List (ℕ × ℕ)
  pub left : let_go all ≡ before.references
  pub few : length pushes ≤ rises.pushes
  pub rule : PushRule all.memory before.segments pushes after.segments

-- One answer of the manager of segments. Where segments are told, nothing changes them but what is
-- pushed. No more pages are live behind it than may be, and the mapper denies the same pages then.
pub record AnswerIs (before : State) (command : KeepCommand) (answer : Answer)
    (rises : MapperCounts) (after : State) : Type 0 where
  pub step : StepAt after.segments before command answer rises after
  pub pushed : IfSome after.segments (λ h. Pushed before rises after)
  pub live : live_pages after.references.memory ≤ LIVE_PAGES
  pub denied : option_map (λ (h : Segments). h.denied) after.segments
      ≡ option_map (λ (h : Segments). h.denied) before.segments
