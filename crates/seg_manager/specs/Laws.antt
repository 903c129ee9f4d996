-- The law of reopening. The contract of a function in src/laws.rt names it, and so it is proved.
use Rattle.std.specs.Prelude.{◌≡◌, ◌==◌, ℕ, Bool, false, true, List, [], ◌∷◌, Option, Some, None, Ok}
use Rattle.std.specs.List.{AllByRecursion}
use Rattle.vm_ids.specs.Counting.{MapperCounts}
use Rattle.vm_ids.specs.Held.{Segments}
use Rattle.vm_ids.specs.declared.command.Command.TheVariants.{OpenSegment}
use Rattle.vm_ids.specs.declared.command.KeepCommand.{KeepCommand}
use Rattle.vm_ids.specs.declared.command.KeepCommand.TheVariants as commands
use Rattle.vm_ids.specs.declared.reply.Reply.{Reply}
use Rattle.vm_model.specs.Answering.{Answer, opened}
use Rattle.vm_model.specs.Machine.{Cache, cache_named}
use Rattle.vm_model.specs.PageForest.{PageForest}
use Rattle.seg_manager.specs.Outcome.{Outcome}
use Rattle.seg_manager.specs.ReferenceMachine.{ReferenceMachine}

-- One answer: to which command, what the segments held, which number a new cache was to have, and
-- by how much the mapper's counts rose.
pub record Step : Type 0 where
  pub command : KeepCommand
  pub forest : Option PageForest
  pub segments : Segments
  pub number : ℕ
  pub answer : Answer
  pub rises : MapperCounts

abbrev pub Leads : ReferenceMachine → Step → ReferenceMachine → Type 0
Leads m s next = Outcome m s.forest s.command s.segments s.number s.answer next s.rises

-- one answer after another, whatever they are
abbrev pub Chain : ReferenceMachine → List Step → ReferenceMachine → Type 0
Chain m [] after = after ≡ m
Chain m (s ∷ steps) after = (next : ReferenceMachine) × Leads m s next × Chain next steps after

-- the command opens this segment
abbrev pub opens : ℕ → KeepCommand → Bool
opens seg (commands.Plain (OpenSegment other)) = other.0 == seg
opens seg command = false

-- the live cache of a segment, where there is one
abbrev pub cache_for : ReferenceMachine → ℕ → Option Cache
cache_for m seg = cache_named m.memory.caches seg

-- When nothing refers to the cache of a segment any more, and the segment is opened at some later
-- time, its cache holds what it held then: whatever is answered between, to commands that don't
-- open it, and whichever number the cache gets.
abbrev pub ReopensAsItWas : Type 0
ReopensAsItWas =
    (m gone before after : ReferenceMachine) (last reopening : Step) (between : List Step)
    (seg : ℕ) (was : Cache) (r : Reply)
    → cache_for m seg ≡ Some was → Leads m last gone → cache_for gone seg ≡ None
    → AllByRecursion (λ (s : Step). opens seg s.command ≡ false) between
    → Chain gone between before
    → opens seg reopening.command ≡ true → Leads before reopening after
    → reopening.answer ≡ Ok r
    → cache_for after seg ≡ Some (opened seg was.pages)
