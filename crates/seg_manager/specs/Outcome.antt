-- What a call of the segment manager may answer: what its machine answers, a mapper fault with its
-- cause, want of memory, or that there are too many caches or pages.
use Rattle.std.specs.Prelude.{◌≡◌, ◌⊎◌, ◌<◌, ℕ, true, Option, None, Ok, Err}
use Rattle.vm_ids.specs.Counting.{MapperCounts}
use Rattle.vm_ids.specs.Held.{Segments}
use Rattle.vm_ids.specs.declared.command.Command.TheVariants.{Destroy, MakeTemp, Map, OpenSegment}
use Rattle.vm_ids.specs.declared.command.KeepCommand.{KeepCommand}
use Rattle.vm_ids.specs.declared.command.KeepCommand.TheVariants as commands
use Rattle.vm_ids.specs.declared.numbers.CacheId.{CacheId}
use Rattle.vm_ids.specs.declared.refusal.Refusal.TheVariants.{NoSegment, TooMany}
use Rattle.vm_ids.specs.declared.reply.FaultAt.{FaultAt}
use Rattle.vm_ids.specs.declared.reply.FaultAt.TheVariants as faults
use Rattle.vm_ids.specs.declared.reply.Trouble.TheVariants as troubles
use Rattle.vm_model.specs.Answering.{Answer, make_temp_of, open_of}
use Rattle.vm_model.specs.Outcome as plain
use Rattle.vm_model.specs.Outcome.{IsNotRefused, NotRefusedButFor}
use Rattle.vm_model.specs.PageForest.{PageForest}
use Rattle.seg_manager.specs.Answering.{MayHave, answer_of}
use Rattle.seg_manager.specs.ReferenceMachine.{ReferenceMachine, is_unreferenced, let_go, number_named}

-- There is no room for the cache that the call would make: a plain machine of these caches refuses
-- it as too many.
abbrev pub LacksRoom : ReferenceMachine → KeepCommand → Type 0
LacksRoom m (commands.Plain (OpenSegment seg)) =
    (open_of m.memory seg.0 (m.stored seg.0)).answer ≡ Err (troubles.Refused TooMany)
LacksRoom m (commands.Plain (MakeTemp pages)) =
    (make_temp_of m.memory pages).answer ≡ Err (troubles.Refused TooMany)
LacksRoom m command = ⊥

-- Beside what is referred to there were caches to which nothing refers any more, and no room for
-- another; one of those couldn't be destroyed, at this fault.
pub record FailsToMakeRoom (m : ReferenceMachine) (f : Option PageForest) (command : KeepCommand)
    (h : Segments) (at : FaultAt) (rises : MapperCounts) : Type 0 where
  pub all : ReferenceMachine
  pub cache : CacheId
  pub left : let_go all ≡ m
  pub lacks : LacksRoom all command
  pub unused : is_unreferenced all cache.0 ≡ true
  pub fault : plain.MayFault all.memory f (Destroy cache) h at rises

-- Which faults a call may answer, at which page, and which of the mapper's counts rose with it
-- beside its faults: those of the plain command; or, where there was no room for a new cache, those
-- of making room.
abbrev pub MayFault : ReferenceMachine → Option PageForest → KeepCommand → Segments → FaultAt
    → MapperCounts → Type 0
MayFault m f (commands.Plain (OpenSegment seg)) h faults.Opening rises =
    (number_named m seg.0 ≡ None)
    × plain.MayFault m.memory f (OpenSegment seg) h faults.Opening rises
MayFault m f (commands.Plain (OpenSegment seg)) h at rises =
    FailsToMakeRoom m f (commands.Plain (OpenSegment seg)) h at rises
MayFault m f (commands.Plain (MakeTemp pages)) h at rises =
    FailsToMakeRoom m f (commands.Plain (MakeTemp pages)) h at rises
MayFault m f (commands.Plain command) h at rises = plain.MayFault m.memory f command h at rises
MayFault m f (commands.Close seg) h at rises = ⊥

-- The machine would refuse nothing, as far as is known at this fault: that there is no such
-- segment may be hidden by it.
abbrev pub GoesOn : FaultAt → KeepCommand → Answer → Type 0
GoesOn at (commands.Plain (OpenSegment seg)) (Err (troubles.Refused NoSegment)) = Unit {0}
GoesOn at command answer = NotRefusedButFor at answer

-- the calls that take memory
abbrev pub MayLack : KeepCommand → Type 0
MayLack (commands.Plain command) = plain.MayLackMemory command
MayLack (commands.Close seg) = ⊥

-- Nothing refuses a call that lacks memory; but an opening and a mapping take memory of their own
-- before it is known what would refuse them.
abbrev pub IsWanted : KeepCommand → Answer → Type 0
IsWanted (commands.Plain (OpenSegment seg)) answer = Unit {0}
IsWanted (commands.Plain (Map actor mapping)) answer = Unit {0}
IsWanted command answer = IsNotRefused answer

-- The machine answers so, and its next is this one. A new cache has this number.
abbrev pub Gives : ReferenceMachine → KeepCommand → Segments → ℕ → Answer → ReferenceMachine
    → Type 0
Gives m command h number answer next =
    answer_of m command h number ≡ record { answer = answer; next = next }

-- The answer and the next machine are those of the machine; or it is a fault that has a cause, want
-- of memory or too many, and the machine stays. There are too many only where there is no room
-- beside what is referred to alone.
abbrev pub Outcome : ReferenceMachine → Option PageForest → KeepCommand → Segments → ℕ → Answer
    → ReferenceMachine → MapperCounts → Type 0
Outcome m f command h number (Err (troubles.Mapper at)) next rises =
    (next ≡ m) × (0 < rises.faults) × MayFault m f command h at rises
    × GoesOn at command (answer_of m command h number).answer
Outcome m f command h number (Err troubles.Memory) next rises =
    (next ≡ m) × MayLack command × IsWanted command (answer_of m command h number).answer
Outcome m f command h number (Err (troubles.Refused TooMany)) next rises =
    ((next ≡ m) × LacksRoom m command)
    ⊎ Gives m command h number (Err (troubles.Refused TooMany)) next
Outcome m f command h number (Err (troubles.Refused r)) next rises =
    Gives m command h number (Err (troubles.Refused r)) next
Outcome m f command h number (Ok r) next rises =
    MayHave m command number × Gives m command h number (Ok r) next
