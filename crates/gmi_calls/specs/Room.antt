-- What a manager answers that has room for so many pages only.
use Rattle.std.specs.Prelude.{◌≡◌, ◌≤◌, ◌<◌, ℕ, List, [], Option, Some, None, is_some, Ok, Err}
use Rattle.vm_ids.specs.Counting.{MapperCounts, Rise, no_counts}
use Rattle.vm_ids.specs.declared.command.Command.{Command}
use Rattle.vm_ids.specs.declared.command.Command.TheVariants as commands
use Rattle.vm_ids.specs.declared.refusal.Refusal.TheVariants.{Full}
use Rattle.vm_ids.specs.declared.reply.Reply.{Reply}
use Rattle.vm_ids.specs.declared.reply.Trouble.TheVariants.{Refused}
use Rattle.vm_model.specs.Machine.{Machine}
use Rattle.vm_model.specs.Answering.{Answer}
use Rattle.vm_model.specs.Asking.{pages_made}
use Rattle.vm_model.specs.Outcome.{OutcomeAt}
use Rattle.vm_model.specs.Run.{AnswerIs, CallIs, State}

-- The pages for which a command needs room that leads from the first machine to the second: those
-- of the cache that it makes, and those that it takes from a segment again.
abbrev pub pages_needed : Machine → Command → Machine → ℕ
pages_needed m (commands.Invalidate extent) next = extent.pages
pages_needed m command next = pages_made m next

-- The command is refused for want of room alone: without a limit it would be carried out, for which
-- it needs more room than there is; all stays.
pub record IsFull (room : ℕ) (before : State) (command : Command) (pushes : List (ℕ × ℕ))
    (after : State) : Type 0 where
  pub reply : Reply
  pub next : Machine
  pub outcome : OutcomeAt after.segments before.machine before.forest command (Ok reply) next
      no_counts
  pub more : room < pages_needed before.machine command next
  pub same : after ≡ before
  pub no_push : pushes ≡ []

-- One answer of a manager with so much room: `Full` exactly where that is the only cause, and any
-- other as without a limit.
abbrev pub AnswerWithin : Option ℕ → State → Command → Answer → List (ℕ × ℕ) → MapperCounts
    → State → Type 0
AnswerWithin None before command answer pushes rises after =
    AnswerIs before command answer pushes rises after
AnswerWithin (Some room) before command (Err (Refused Full)) pushes rises after =
    IsFull room before command pushes after
AnswerWithin (Some room) before command (Err trouble) pushes rises after =
    AnswerIs before command (Err trouble) pushes rises after
AnswerWithin (Some room) before command (Ok reply) pushes rises after =
    AnswerIs before command (Ok reply) pushes rises after
    × (pages_needed before.machine command after.machine ≤ room)

-- A call of a manager with room for so many pages, which leads from one state to the next while the
-- mapper's counts go from c to d.
pub record LimitedCall (room : ℕ) (c d : MapperCounts) (before : State) (command : Command)
    (answer : Answer) (after : State) : Type 0 where
  pub pushes : List (ℕ × ℕ)
  pub rises : MapperCounts
  pub rose : Rise c d rises
  pub is : AnswerWithin (Some room) before command answer pushes rises after

-- the same of one whose room may be limited
abbrev pub CallWithin : Option ℕ → MapperCounts → MapperCounts → State → Command → Answer → State
    → Type 0
CallWithin None c d before command answer after = CallIs c d before command answer after
CallWithin (Some room) c d before command answer after =
    LimitedCall room c d before command answer after

-- by how much the mapper's counts rose in such a call
abbrev pub rises_in : (room : Option ℕ) (c d : MapperCounts) (before : State) (command : Command)
    (answer : Answer) (after : State) → CallWithin room c d before command answer after
    → MapperCounts
rises_in None c d before command answer after call = call.rises
rises_in (Some room) c d before command answer after call = call.rises

-- where room was limited it is limited still, and where it wasn't it isn't
abbrev pub StaysLimited : Option ℕ → Option ℕ → Type 0
StaysLimited before now = is_some now ≡ is_some before
