-- Two managers over one script: of the one, room isn't limited, and in the other each live page has
-- one of so many frames. The contract of a function in src/laws.rt names the law, and so it is
-- proved.
use Rattle.std.specs.Prelude.{◌≡◌, ◌⊎◌, ◌≤◌, ◌<◌, ◌-◌, ℕ, Bool, false, true, List, [], ◌∷◌, Option, Some, Ok, Err}
use Rattle.std.specs.List.{AllByRecursion}
use Rattle.vm_ids.specs.Counting.{MapperCounts}
use Rattle.vm_ids.specs.Held.{Segments}
use Rattle.vm_ids.specs.declared.command.Command.TheVariants as commands
use Rattle.vm_ids.specs.declared.refusal.Refusal.TheVariants.{Full}
use Rattle.vm_ids.specs.declared.reply.Trouble.TheVariants.{Mapper, Memory, Refused}
use Rattle.vm_model.specs.Machine.{Machine, live_pages, start}
use Rattle.vm_model.specs.PageForest.{PageForest}
use Rattle.vm_model.specs.Answering.{Answer}
use Rattle.vm_model.specs.Steps.{Chain, Semantics, Step, lines_answered}
use Rattle.vm_model.specs.Run.{NothingRead, Read, State, command_semantics}
use Rattle.gmi_calls.specs.Room.{AnswerWithin}

-- how many frames are left where each live page has one
abbrev pub frames_left : Machine → ℕ
frames_left m = m.frames - live_pages m

-- a line is answered where there is room for as many pages as frames are left
abbrev pub StepWithin : State → Read → Answer → List (ℕ × ℕ) → MapperCounts → State → Type 0
StepWithin before (Err r) answer pushes rises after =
    NothingRead before r answer pushes rises after
StepWithin before (Ok command) answer pushes rises after =
    AnswerWithin (Some (frames_left before.machine)) before command answer pushes rises after

-- what is pushed meanwhile is free
abbrev pub IsAnsweredWithin : State → Read → Answer → MapperCounts → State → Type 0
IsAnsweredWithin before read answer rises after =
    (pushes : List (ℕ × ℕ)) × StepWithin before read answer pushes rises after

-- what the commands of a script mean to a manager in which each live page has a frame
abbrev pub framed_semantics : Semantics
framed_semantics = record command_semantics { StepIs = IsAnsweredWithin }

-- how a run over these segments begins, where a manager tells this forest or none
abbrev pub start_over : ℕ → ℕ → Segments → Option PageForest → State
start_over frames page_bytes h forest =
    record { machine = start frames page_bytes; forest = forest; segments = Some h }

-- The answer to the line depends on how a manager keeps pages, or on what it has pushed.
abbrev pub asks_manager : Read → Bool
asks_manager (Ok (commands.Invalidate extent)) = true
asks_manager (Ok (commands.Chain cache page)) = true
asks_manager (Ok commands.Stat) = true
asks_manager read = false

-- a mapper fault, or want of memory
abbrev pub is_failure : Answer → Bool
is_failure (Err (Mapper at)) = true
is_failure (Err Memory) = true
is_failure answer = false

abbrev pub AnswersNoFailure : Step Read → Type 0
AnswersNoFailure step = is_failure step.answer ≡ false

-- Two runs answer the lines of one script in one order, no line of which asks how a manager keeps
-- pages. Neither answers a mapper fault or want of memory.
pub record AreOfOneScript (first second : List (Step Read)) : Type 0 where
  pub lines : lines_answered second ≡ lines_answered first
  pub plain : AllByRecursion (λ (step : Step Read). asks_manager step.read ≡ false) first
  pub no_failure : AllByRecursion AnswersNoFailure first
  pub no_failure_too : AllByRecursion AnswersNoFailure second

-- Frames run out: without a limit more pages are alive behind the answer than there are frames, and
-- with it the answer is Full.
pub record RunsOut (frames : ℕ) (answer : Answer) (unlimited : State) : Type 0 where
  pub full : answer ≡ Err (Refused Full)
  pub more : frames < live_pages unlimited.machine

-- They don't: the answers are the same, and so are the machines behind them, in which there is a
-- frame for each live page.
pub record AreSame (frames : ℕ) (first second : Answer) (unlimited limited : State)
    : Type 0 where
  pub answer : second ≡ first
  pub machine : limited.machine ≡ unlimited.machine
  pub enough : live_pages unlimited.machine ≤ frames

-- Answer by answer two runs are the same, to their end or to where the frames of the second one run
-- out.
abbrev pub AreSameUntilFull : (frames : ℕ) (first second : List (Step Read))
    (s t after last : State) → Chain command_semantics s first after
    → Chain framed_semantics t second last → Type 0
AreSameUntilFull frames [] [] s t after last chain other = Unit {0}
AreSameUntilFull frames (x ∷ first) (y ∷ second) s t after last chain other =
    RunsOut frames y.answer chain.0
    ⊎ (AreSame frames x.answer y.answer chain.0 other.0
    × AreSameUntilFull frames first second chain.0 other.0 after last chain.2 other.2)
AreSameUntilFull frames first second s t after last chain other = ⊥

-- From equal segments, with equally many frames and pages of one size, two runs of one script give
-- the same answers and lead through the same machines, up to the first command for which the frames
-- run out, whatever is pushed in each, and when.
abbrev pub AgreeUntilFull : Type 0
AgreeUntilFull =
    (frames page_bytes : ℕ) (h : Segments) (f g : Option PageForest)
    (first second : List (Step Read)) (after last : State)
    (chain : Chain command_semantics (start_over frames page_bytes h f) first after)
    (other : Chain framed_semantics (start_over frames page_bytes h g) second last)
    → AreOfOneScript first second
    → AreSameUntilFull frames first second _ _ after last chain other
