-- What calls of a manager have in common.
use Rattle.std.specs.Prelude.{◌≡◌, ◌≤◌, ℕ, ◌+◌, ◌*◌, [], Option, Result, Err, IfSome}
use Rattle.vm_ids.specs.Counting.{MapperCounts, RoseBy, no_counts}
use Rattle.vm_ids.specs.Held.{Held}
use Rattle.vm_ids.specs.declared.command.Command.{Command}
use Rattle.vm_ids.specs.declared.command.Command.TheVariants as commands
use Rattle.vm_ids.specs.declared.reply.FaultAt.TheVariants.{Access}
use Rattle.vm_ids.specs.declared.reply.Reply.TheVariants.{Done}
use Rattle.vm_ids.specs.declared.reply.Trouble.{Trouble}
use Rattle.vm_ids.specs.declared.reply.Trouble.TheVariants.{Mapper, Memory, Refused}
use Rattle.vm_model.specs.Machine.{Machine}
use Rattle.vm_model.specs.Answering.{Answer, answer_by}
use Rattle.vm_model.specs.Asking.{pages_made, pages_touched}
use Rattle.vm_model.specs.PageForest.{PageForest}
use Rattle.vm_model.specs.Run.{state_of}
use Rattle.vm_port.specs.declared.traits.mapper.Mapper.{Ghosts as GhostsOfMapper}
use Rattle.gmi_calls.specs.Room.{AnswerWithin, CallWithin, StaysLimited}

-- the answer of a call that gives nothing back
abbrev pub done_by : Result (Unit {0}) Trouble → Answer
done_by = answer_by (λ _. Done)

-- the mapper takes pages of the machine's size, or of any
abbrev pub Fits : Option ℕ → Machine → Type 0
Fits told m = IfSome told (λ bytes. bytes ≡ m.page_bytes)

-- neither a load nor a store
abbrev pub IsNoAccess : Command → Type 0
IsNoAccess (commands.Load actor address bytes) = ⊥
IsNoAccess (commands.Store actor address piece) = ⊥
IsNoAccess command = Unit {0}

-- How far a call may raise the number that bounds a manager's counters: a refused call leaves it,
-- any other raises it by at most 8 for each page that it touches or makes and by at most 8 besides.
abbrev pub RaisesMade : Machine → Command → Answer → Machine → ℕ → ℕ → Type 0
RaisesMade m command (Err (Refused r)) next before now = now ≡ before
RaisesMade m command answer next before now =
    now ≤ before + 8 * (pages_touched m command + pages_made m next) + 8

-- The working nodes made and the pages copied are no more than a number that bounds them.
pub record AreWithin (made : ℕ) (f : PageForest) : Type 0 where
  pub working : f.made ≤ made
  pub copies : f.copies ≤ made

-- no pull and no push was made
pub record NoTraffic (before now : MapperCounts) : Type 0 where
  pub pulled : RoseBy 0 before.pulls now.pulls
  pub pushed : RoseBy 0 before.pushes now.pushes

-- Refusals are found, write access is asked and memory is taken before a page comes or goes: where
-- one of these ends a command, no pull and no push was made. Only a manager that pulls the pages of
-- a segment as it opens it may find no memory behind that.
abbrev pub AsksFirst : Command → Answer → MapperCounts → MapperCounts → Type 0
AsksFirst command (Err (Refused r)) before now = NoTraffic before now
AsksFirst command (Err (Mapper (Access page))) before now = NoTraffic before now
AsksFirst (commands.OpenSegment seg) (Err Memory) before now = Unit {0}
AsksFirst command (Err Memory) before now = NoTraffic before now
AsksFirst command answer before now = Unit {0}

-- The ghost members of the trait `Gmi` which say what a manager stands for.
pub record Meanings (G : Type 0) : Type 1 where
  pub machine : G → Option Held → Machine
  pub forest : G → Option Held → Option PageForest
  pub valid : G → Option Held → Type 0
  pub made : G → ℕ
  pub room : G → Option ℕ

-- these members in one
abbrev pub meanings : {G : Type 0} → (G → Option Held → Machine)
    → (G → Option Held → Option PageForest) → (G → Option Held → Type 0) → (G → ℕ)
    → (G → Option ℕ) → Meanings G
meanings machine forest valid made room =
    record { machine = machine; forest = forest; valid = valid; made = made; room = room }

-- The answer of a call that takes no mapper: whatever a mapper holds, nothing is pushed to it, and
-- none of its counts rises.
abbrev pub AnswersWithin : {G : Type 0} → Meanings G → G → Command → Answer → G → Type 0
AnswersWithin G old command answer new = (h : Option Held) → G.valid old h
    → AnswerWithin (G.room old) (state_of G.machine G.forest old h) command answer [] no_counts
    (state_of G.machine G.forest new h)

-- A call that takes no mapper, which leads from one manager to the next. Whatever a mapper holds,
-- the manager stays valid beside it.
pub record CallDone {Manager : Type 0} (G : Meanings Manager) (old : Manager) (command : Command)
    (answer : Answer) (new : Manager) : Type 0 where
  pub valid : (h : Option Held) → G.valid old h → G.valid new h
  pub answers : AnswersWithin G old command answer new
  pub made : (h : Option Held) → G.valid old h
      → RaisesMade (G.machine old h) command answer (G.machine new h) (G.made old) (G.made new)
  pub room : StaysLimited (G.room old) (G.room new)

-- A call that takes a mapper, which leads from one manager and mapper to the next. `M` is the ghost
-- members of the mapper.
pub record MapperCall {Manager Mapper : Type 0} (M : GhostsOfMapper Mapper) (G : Meanings Manager)
    (before : Mapper) (old : Manager) (command : Command) (answer : Answer) (after : Mapper)
    (new : Manager) : Type 0 where
  pub valid : G.valid new (M.held after)
  pub answers : CallWithin (G.room old) (M.counts before) (M.counts after)
      (state_of G.machine G.forest old (M.held before)) command answer
      (state_of G.machine G.forest new (M.held after))
  pub asks_first : AsksFirst command answer (M.counts before) (M.counts after)
  pub made : RaisesMade (G.machine old (M.held before)) command answer
      (G.machine new (M.held after)) (G.made old) (G.made new)
  pub room : StaysLimited (G.room old) (G.room new)
  pub page : M.page_bytes after ≡ M.page_bytes before
