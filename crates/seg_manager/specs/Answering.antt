-- The answer to each command of a script of segments, row by row: the first refusal that holds, or
-- else the reply and the change. The number that a new cache gets is handed in.
use Rattle.std.specs.Prelude.{◌≡◌, ◌≤◌, ◌<◌, ℕ, List, length, Option, Some, None, Ok, Err, if◌then◌else◌}
use Rattle.vm_ids.specs.Held.{Segments}
use Rattle.vm_ids.specs.declared.command.Command.{Command}
use Rattle.vm_ids.specs.declared.command.Command.TheVariants as plain_commands
use Rattle.vm_ids.specs.declared.command.KeepCommand.{KeepCommand}
use Rattle.vm_ids.specs.declared.command.KeepCommand.TheVariants as commands
use Rattle.vm_ids.specs.declared.refusal.Refusal.{Refusal}
use Rattle.vm_ids.specs.declared.refusal.Refusal.TheVariants.{BadLine, NoSegment, NotOpen}
use Rattle.vm_ids.specs.declared.reply.Reply.{Reply}
use Rattle.vm_ids.specs.declared.reply.Reply.TheVariants as replies
use Rattle.vm_ids.specs.declared.reply.Trouble.TheVariants.{Refused}
use Rattle.vm_model.specs.Answering as plain
use Rattle.vm_model.specs.Answering.{Answer, opened, temporary}
use Rattle.vm_model.specs.Machine.{Machine, Page, cache_of}
use Rattle.seg_manager.specs.ReferenceMachine.{ReferenceMachine, add_cache, close_one, is_open, let_go, number_named, open_one, take_stored}

-- An answer, and the machine after it.
pub record Answered : Type 0 where
  pub answer : Answer
  pub next : ReferenceMachine

-- refused: the machine stays
abbrev pub refuse : ReferenceMachine → Refusal → Answered
refuse m r = record { answer = Err (Refused r); next = m }

abbrev pub reply : Reply → ReferenceMachine → Answered
reply r next = record { answer = Ok r; next = next }

abbrev pub reply_cache : ℕ → ReferenceMachine → Answered
reply_cache number next = reply (replies.Cache (record { 0 = number })) next

-- another reference to a cache that lives
abbrev pub open_again : ReferenceMachine → ℕ → ℕ → Answered
open_again m seg number = reply_cache number (open_one seg m)

-- a cache with the pages that are stored for the segment, where there is one
abbrev pub open_anew : ReferenceMachine → ℕ → ℕ → Option (List Page) → Answered
open_anew m seg number None = refuse m NoSegment
open_anew m seg number (Some pages) =
    reply_cache number (open_one seg (add_cache (take_stored seg m) number (opened seg pages)))

abbrev pub open_by : ReferenceMachine → ℕ → ℕ → Option ℕ → Answered
open_by m seg number (Some there) = open_again m seg there
open_by m seg number None = open_anew m seg number (m.stored seg)

-- open: a reference more to the cache of the segment, which is made where there is none
unfoldable pub open_of : ReferenceMachine → ℕ → ℕ → Answered
open_of m seg number = open_by m seg number (number_named m seg)

-- temp: a new temporary cache of zero pages
unfoldable pub make_temp_of : ReferenceMachine → ℕ → ℕ → Answered
make_temp_of m pages number =
    reply_cache number (add_cache m number (temporary m.memory.page_bytes pages))

-- close: an opening of the segment is taken back
unfoldable pub close_of : ReferenceMachine → ℕ → Answered
close_of m seg =
    if is_open m seg then reply replies.Done (let_go (close_one seg m)) else refuse m NotOpen

-- the plain machine goes on so
abbrev pub with_memory : ReferenceMachine → Machine → ReferenceMachine
with_memory m next = record m { memory = next }

-- as the plain machine answers; what nothing refers to any more goes
abbrev pub leaving : ReferenceMachine → Machine → Answer → Answered
leaving m next (Ok r) = reply r (let_go (with_memory m next))
leaving m next (Err e) = record { answer = Err e; next = m }

abbrev pub leaving_by : ReferenceMachine → plain.Answered → Answered
leaving_by m a = leaving m a.next a.answer

abbrev pub within : ReferenceMachine → plain.Answered → Answered
within m a = record { answer = a.answer; next = with_memory m a.next }

-- A command of the manager's own; those that no script of segments has aren't lines of one.
abbrev pub plain_of : ReferenceMachine → Command → Segments → ℕ → Answered
plain_of m plain_commands.MakeActor h number = within m (plain.make_actor_of m.memory)
plain_of m (plain_commands.ExitActor actor) h number =
    leaving_by m (plain.exit_actor_of m.memory actor.0)
plain_of m (plain_commands.MakeTemp pages) h number = make_temp_of m pages number
plain_of m (plain_commands.OpenSegment seg) h number = open_of m seg.0 number
plain_of m (plain_commands.Copy span) h number = within m (plain.copy_of m.memory span h)
plain_of m (plain_commands.Map actor mapping) h number =
    within m (plain.map_of m.memory actor.0 mapping)
plain_of m (plain_commands.Unmap region) h number =
    leaving_by m (plain.unmap_of m.memory region.0)
plain_of m (plain_commands.Load actor address length) h number =
    within m (plain.load_of m.memory actor.0 address length)
plain_of m (plain_commands.Store actor address piece) h number =
    within m (plain.store_of m.memory actor.0 address piece h)
plain_of m (plain_commands.PageOut count) h number = reply replies.Done m
plain_of m command h number = refuse m BadLine

-- the whole table
abbrev pub answer_of : ReferenceMachine → KeepCommand → Segments → ℕ → Answered
answer_of m (commands.Close seg) h number = close_of m seg.0
answer_of m (commands.Plain command) h number = plain_of m command h number

-- A new cache may have this number: that of a segment any that no live cache has, a temporary one
-- any that was never given.
abbrev pub MayHave : ReferenceMachine → KeepCommand → ℕ → Type 0
MayHave m (commands.Plain (plain_commands.OpenSegment seg)) number =
    (1 ≤ number) × (cache_of m.memory number ≡ None)
MayHave m (commands.Plain (plain_commands.MakeTemp pages)) number =
    length m.memory.caches < number
MayHave m command number = Unit {0}
