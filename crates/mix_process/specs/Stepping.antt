-- One answer after another of processes: what there is between two, and how one leads on.
use Rattle.std.specs.Prelude.{◌≡◌, ℕ, List, [], All, length, map, Option, Some, None, option_map}
use Rattle.vm_ids.specs.Counting.{MapperCounts}
use Rattle.vm_ids.specs.Held.{Segments}
use Rattle.vm_ids.specs.declared.command.MixCommand.{MixCommand}
use Rattle.vm_model.specs.Answering.{Answer}
use Rattle.vm_model.specs.Machine.{Page}
use Rattle.gmi_calls.specs.Untold.{UntoldStep}
use Rattle.mix_process.specs.Outcome.{HasThese, Outcome, RaisedBy, Usage, makes_by}
use Rattle.mix_process.specs.ProcessMachine.{Process, ProcessMachine, pages_of, process_of}
use Rattle.mix_process.specs.declared.area.Area.{Area}

-- What there is between two answers: the processes, what the manager has, and the mapper's segments
-- where they are told.
pub record State : Type 0 where
  pub processes : ProcessMachine
  pub usage : Usage
  pub segments : Option Segments

-- One answer: an outcome of the machine of processes, in which the manager makes no more than is
-- told.
pub record StepOver (h : Segments) (before : State) (command : MixCommand) (answer : Answer)
    (rises : MapperCounts) (after : State) : Type 0 where
  pub outcome : Outcome before.processes before.usage command h answer after.processes rises
  pub raised : RaisedBy (makes_by before.processes command h answer) before.usage after.usage

-- the process with each page changed so
abbrev pub each_of : (Page → Page) → Process → Process
each_of f p = record p {
  text_pages = map f p.text_pages;
  data_pages = map f p.data_pages;
  stack_pages = map f p.stack_pages;
}

abbrev pub each_in : (Page → Page) → ℕ × List Page → ℕ × List Page
each_in f image = (image.0, map f image.1)

-- the machine with each page changed so
abbrev pub each_page : (Page → Page) → ProcessMachine → ProcessMachine
each_page f m = record m {
  processes = map (option_map (each_of f)) m.processes;
  images = map (each_in f) m.images;
}

abbrev pub no_bytes : Page → Page
no_bytes page = []

-- the state without the bytes of its pages
abbrev pub forget : State → State
forget s = record s { processes = each_page no_bytes s.processes }

-- each page of the living processes has all its bytes
abbrev pub HasAllBytes : ProcessMachine → Type 0
HasAllBytes m = (n : ℕ) (p : Process) → process_of m n ≡ Some p → (area : Area)
    → All (λ (page : Page). length page ≡ m.page_bytes) (pages_of p area)

-- One answer of processes whose pages have all their bytes.
pub record WholeStep (h : Segments) (before : State) (command : MixCommand) (answer : Answer)
    (rises : MapperCounts) (after : State) : Type 0 where
  pub bytes : HasAllBytes before.processes
  pub step : StepOver h before command answer rises after

-- One answer, where the mapper tells what it holds and where it doesn't.
abbrev pub StepAt : Option Segments → State → MixCommand → Answer → MapperCounts → State → Type 0
StepAt None before command answer rises after =
    UntoldStep forget (λ h whole a next. WholeStep h whole command a rises next) before answer after
StepAt (Some h) before command answer rises after = StepOver h before command answer rises after

-- One answer of the processes over a manager. Behind it the manager has the processes and their
-- images, and nothing else. No segment changes.
pub record AnswerIs (before : State) (command : MixCommand) (answer : Answer) (rises : MapperCounts)
    (after : State) : Type 0 where
  pub step : StepAt after.segments before command answer rises after
  pub has : HasThese after.processes after.usage
  pub segments : after.segments ≡ before.segments
