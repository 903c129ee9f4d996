-- What the eager machine's calls come to, which ask no mapper: where the mapper denies no page that
-- a command changes, and where that is all that may be refused.
use Rattle.std.specs.Prelude.{◌≡◌, ℕ, ◌<◌, Bool, true, false, is_some, length, Option, None, option_map, Result, Ok, Err}
use Rattle.vm_ids.specs.Counting.{MapperCounts, no_counts}
use Rattle.vm_ids.specs.Held.{Segments}
use Rattle.vm_ids.specs.declared.command.Command.{Command}
use Rattle.vm_ids.specs.declared.command.Command.TheVariants as commands
use Rattle.vm_ids.specs.declared.numbers.PageNo.{PageNo}
use Rattle.vm_ids.specs.declared.numbers.SegId.{SegId}
use Rattle.vm_ids.specs.declared.refusal.Refusal.{Refusal}
use Rattle.vm_ids.specs.declared.refusal.Refusal.TheVariants.{WriteDenied}
use Rattle.vm_ids.specs.declared.reply.FaultAt.TheVariants.{Opening}
use Rattle.vm_ids.specs.declared.reply.Trouble.TheVariants.{Mapper}
use Rattle.vm_model.specs.declared.limits.TheConstants.{MOST_MADE}
use Rattle.vm_model.specs.Machine.{Machine, cache_named, segment_of}
use Rattle.vm_model.specs.Place.{Place, place}
use Rattle.vm_model.specs.PageForest.{plain_forest}
use Rattle.vm_model.specs.Answering.{Answer, answer_of, is_any_denied, is_denied_page, refuse}
use Rattle.vm_model.specs.Outcome.{IsNotRefused, Outcome}

-- the mapper denies the page of a place
abbrev pub is_denied_place : Machine → Segments → Result Place Refusal → Bool
is_denied_place m h (Ok at) = is_denied_page m h at.region.cache at.page
is_denied_place m h (Err r) = false

-- the mapper denies a page that the command changes
abbrev pub is_denied : Machine → Segments → Command → Bool
is_denied m h (commands.Copy span) = is_any_denied m h span
is_denied m h (commands.Move span) = is_any_denied m h span
is_denied m h (commands.Store actor address piece) =
    is_denied_place m h (place m actor.0 address (length piece))
is_denied m h command = false

-- The outcome of a call of a machine that tells no forest and reaches no mapper, where the mapper
-- denies no page that the command changes.
abbrev pub AllowedOutcome : Machine → Command → Answer → Machine → Type 0
AllowedOutcome m command answer next =
    (h : Segments) → is_denied m h command ≡ false
    → Outcome m None command h answer next no_counts

-- The command is refused as WriteDenied where the mapper denies a page that it changes, and not at
-- all where it doesn't.
pub record AwaitsAccess (m : Machine) (command : Command) : Type 0 where
  pub denied : (h : Segments) → is_denied m h command ≡ true
      → answer_of m (plain_forest m) command h ≡ refuse m WriteDenied
  pub allowed : (h : Segments) → is_denied m h command ≡ false
      → IsNotRefused (answer_of m (plain_forest m) command h).answer

-- the page of a segment in which a place lies, where a segment names its cache
abbrev pub segment_place : Machine → Place → Option (ℕ × ℕ)
segment_place m at = option_map (λ seg. (seg, at.page)) (segment_of m at.region.cache)

-- a segment and a page as numbers
abbrev pub numbers_of : SegId × PageNo → ℕ × ℕ
numbers_of p = (p.0.0, p.1.0)

-- No live cache is of the segment, and one more may be made.
pub record CanOpen (m : Machine) (seg : SegId) : Type 0 where
  pub free : is_some (cache_named m.caches seg.0) ≡ false
  pub few : length m.caches < MOST_MADE

-- A fault of the mapper on the way is then an outcome.
abbrev pub MayFailToOpen : Machine → SegId → Type 0
MayFailToOpen m seg =
    (h : Segments) (rises : MapperCounts) → 0 < rises.faults
    → Outcome m None (commands.OpenSegment seg) h (Err (Mapper Opening)) m rises
