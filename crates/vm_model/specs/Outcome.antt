-- What a manager may answer to a command: the machine's answer, a mapper fault with its cause, or
-- want of memory.
use Rattle.std.specs.Prelude.{◌≡◌, ℕ, ◌+◌, ◌<◌, ◌≤◌, false, List, [], map, length, Option, Some, None, option_map, Ok, Err, All, IsSome, IsSomeAnd, IsOkAnd}
use Rattle.vm_ids.specs.Counting.{MapperCounts, no_counts}
use Rattle.vm_ids.specs.Held.{Segments}
use Rattle.vm_ids.specs.declared.command.Command.{Command}
use Rattle.vm_ids.specs.declared.command.Command.TheVariants as commands
use Rattle.vm_ids.specs.declared.command.Extent.{Extent}
use Rattle.vm_ids.specs.declared.command.Span.{Span}
use Rattle.vm_ids.specs.declared.reply.Reply.TheVariants as replies
use Rattle.vm_ids.specs.declared.reply.FaultAt.{FaultAt}
use Rattle.vm_ids.specs.declared.reply.FaultAt.TheVariants as faults
use Rattle.vm_ids.specs.declared.reply.Trouble.TheVariants as troubles
use Rattle.vm_ids.specs.declared.refusal.Refusal.TheVariants as refusals
use Rattle.std.specs.Bool.{IsTrue}
use Rattle.vm_ids.specs.declared.node_name.NodeName.{NodeName}
use Rattle.vm_ids.specs.Forest.Saving.{saves, unsaved}
use Rattle.vm_model.specs.declared.limits.TheConstants.{MOST_MADE}
use Rattle.vm_model.specs.PageForest.{PageForest, forest_shown}
use Rattle.vm_model.specs.Following.{pages_saved}
use Rattle.vm_model.specs.Machine.{Machine, Cache, Region, cache_of, pages_in}
use Rattle.vm_model.specs.Place.{Place, place}
use Rattle.vm_model.specs.Regions.{region_with}
use Rattle.vm_model.specs.Answering.{Answer, answer_of, is_denied_page, is_named}

-- The machine would refuse nothing; but a failed question for write access may hide that the write
-- is denied, and one for the size of a segment that there is no such segment, or that it is too
-- large.
abbrev pub NotRefusedButFor : FaultAt → Answer → Type 0
NotRefusedButFor at (Ok r) = Unit {0}
NotRefusedButFor (faults.Access p) (Err (troubles.Refused refusals.WriteDenied)) = Unit {0}
NotRefusedButFor faults.Opening (Err (troubles.Refused refusals.NoSegment)) = Unit {0}
NotRefusedButFor faults.Opening (Err (troubles.Refused refusals.TooMany)) = Unit {0}
NotRefusedButFor at (Err e) = ⊥

abbrev pub IsNamed : Machine → ℕ → Type 0
IsNamed m cache = IsTrue (is_named m cache)

-- page p is the page that is accessed
abbrev pub IsAccessed : Machine → ℕ → ℕ → ℕ → ℕ → Type 0
IsAccessed m actor address length p =
    IsOkAnd (place m actor address length) (λ (at : Place). at.page ≡ p)

-- the accessed page is of a named cache
abbrev pub IsNamedAccess : Machine → ℕ → ℕ → ℕ → Type 0
IsNamedAccess m actor address length =
    IsOkAnd (place m actor address length) (λ (at : Place). IsNamed m at.region.cache)

-- page p is of the destination, and no lesser page of the destination is denied
abbrev pub IsFirstAsked : Machine → Segments → Span → ℕ → Type 0
IsFirstAsked m h s p =
    (s.to_page.0 ≤ p) × (p < s.to_page.0 + s.pages)
    × ((q : ℕ) → s.to_page.0 ≤ q → q < p → is_denied_page m h s.to.0 q ≡ false)

-- So many saves of these pages can be done from the forest, one after the other, and after them a
-- page with an own page and an heir is left: at each of them, and behind the last, there is a page
-- to save. The plain forest has no heirs, so where the forest isn't told no save was done.
abbrev pub CanFailAtSave : Option PageForest → List NodeName → ℕ → Type 0
CanFailAtSave None pages done = done ≡ 0
CanFailAtSave (Some f) pages done = (n : ℕ) → n ≤ done → IsSome (unsaved (saves n pages f) pages)

-- page p is a page of the cache
abbrev pub IsPageOf : Machine → ℕ → ℕ → Type 0
IsPageOf m cache p = p < pages_in (cache_of m cache)

-- page p is a page under the region
abbrev pub IsPageUnder : Machine → ℕ → ℕ → Type 0
IsPageUnder m number p =
    IsSomeAnd (region_with number m.actors)
    (λ (r : Region). (r.offset ≤ p) × (p < r.offset + r.pages))

-- page p is a page of the extent
abbrev pub IsPageIn : Extent → ℕ → Type 0
IsPageIn e p = (e.first.0 ≤ p) × (p < e.first.0 + e.pages)

-- Which faults a command may answer, at which page, and which of the mapper's counts rose with it
-- beside its faults. The size of a segment is asked only where fewer caches were made than may be.
abbrev pub MayFault : Machine → Option PageForest → Command → Segments → FaultAt → MapperCounts
    → Type 0
MayFault m f (commands.OpenSegment seg) h faults.Opening rises = length m.caches < MOST_MADE
MayFault m f (commands.Destroy cache) h (faults.Page p) rises =
    IsNamed m cache.0 × IsPageOf m cache.0 p.0
MayFault m f (commands.Destroy cache) h (faults.Save done) rises =
    IsNamed m cache.0 × CanFailAtSave f (pages_saved m (commands.Destroy cache)) done
MayFault m f (commands.Copy span) h (faults.Access p) rises =
    IsNamed m span.to.0 × IsFirstAsked m h span p.0
MayFault m f (commands.Copy span) h (faults.Save done) rises =
    IsNamed m span.to.0 × CanFailAtSave f (pages_saved m (commands.Copy span)) done
MayFault m f (commands.Move span) h (faults.Access p) rises =
    IsNamed m span.to.0 × IsFirstAsked m h span p.0
MayFault m f (commands.Move span) h (faults.Save done) rises =
    IsNamed m span.to.0 × CanFailAtSave f (pages_saved m (commands.Move span)) done
MayFault m f (commands.Lock region) h (faults.Page p) rises = IsPageUnder m region.0 p.0
MayFault m f (commands.Load actor address bytes) h (faults.Page p) rises =
    IsAccessed m actor.0 address bytes p.0 × (0 < rises.pulls)
MayFault m f (commands.Load actor address bytes) h faults.Victim rises = 0 < rises.pushes
MayFault m f (commands.Store actor address piece) h (faults.Access p) rises =
    IsAccessed m actor.0 address (length piece) p.0 × IsNamedAccess m actor.0 address (length piece)
MayFault m f (commands.Store actor address piece) h (faults.Page p) rises =
    IsAccessed m actor.0 address (length piece) p.0 × (0 < rises.pulls)
MayFault m f (commands.Store actor address piece) h faults.Victim rises = 0 < rises.pushes
MayFault m f (commands.Sync extent) h (faults.Page p) rises = IsPageIn extent p.0
MayFault m f (commands.Flush extent) h (faults.Page p) rises = IsPageIn extent p.0
MayFault m f (commands.Invalidate extent) h (faults.Save done) rises =
    IsNamed m extent.cache.0 × CanFailAtSave f (pages_saved m (commands.Invalidate extent)) done
MayFault m f (commands.PageOut count) h faults.Victim rises = 0 < rises.pushes
MayFault m f command h at rises = ⊥

-- the commands that take memory
abbrev pub MayLackMemory : Command → Type 0
MayLackMemory commands.MakeActor = Unit {0}
MayLackMemory (commands.MakeTemp pages) = Unit {0}
MayLackMemory (commands.OpenSegment seg) = Unit {0}
MayLackMemory (commands.Copy span) = Unit {0}
MayLackMemory (commands.Move span) = Unit {0}
MayLackMemory (commands.Map actor mapping) = Unit {0}
MayLackMemory (commands.Split region pages) = Unit {0}
MayLackMemory (commands.Invalidate extent) = Unit {0}
MayLackMemory (commands.Chain cache page) = Unit {0}
MayLackMemory command = ⊥

abbrev pub IsNotRefused : Answer → Type 0
IsNotRefused (Ok r) = Unit {0}
IsNotRefused (Err e) = ⊥

-- The answer and the next machine are the machine's, with chain and stat told by the forest; or it
-- is a fault that has a cause, or want of memory, and the machine stays. rises says by how much the
-- mapper's counts rose in the course of this answer.
abbrev pub Outcome : Machine → Option PageForest → Command → Segments → Answer → Machine
    → MapperCounts → Type 0
Outcome m f command h (Err (troubles.Mapper at)) next rises =
    (next ≡ m) × (0 < rises.faults) × MayFault m f command h at rises
    × NotRefusedButFor at (answer_of m (forest_shown f m) command h).answer
Outcome m f command h (Err troubles.Memory) next rises =
    (next ≡ m) × MayLackMemory command
    × IsNotRefused (answer_of m (forest_shown f m) command h).answer
Outcome m f command h (Err (troubles.Refused r)) next rises =
    answer_of m (forest_shown f m) command h
    ≡ record { answer = Err (troubles.Refused r); next = next }
Outcome m f command h (Ok r) next rises =
    answer_of m (forest_shown f m) command h ≡ record { answer = Ok r; next = next }

-- The outcome of a call of a machine that tells no forest and reaches no mapper, whatever the
-- segments hold.
abbrev pub PlainOutcome : Machine → Command → Answer → Machine → Type 0
PlainOutcome m command answer next =
    (h : Segments) → Outcome m None command h answer next no_counts

-- Where the mapper doesn't tell what it holds, a machine has no bytes: as many pages, and each
-- empty.
abbrev pub blank_cache : Cache → Cache
blank_cache c = record c { pages = map (λ _. []) c.pages }

abbrev pub blank : Machine → Machine
blank m = record m { caches = map (option_map blank_cache) m.caches }

-- the same answer, but for which bytes it has
abbrev pub IsAlike : Answer → Answer → Type 0
IsAlike (Ok (replies.Bytes a)) (Ok (replies.Bytes b)) = length a ≡ length b
IsAlike a b = a ≡ b

-- each page has all its bytes
abbrev pub IsWhole : ℕ → Option Cache → Type 0
IsWhole page_bytes None = Unit {0}
IsWhole page_bytes (Some c) = All (λ p. length p ≡ page_bytes) c.pages

abbrev pub HasWholePages : Machine → Type 0
HasWholePages m = All (IsWhole m.page_bytes) m.caches

-- Some machine with bytes, which is this one but for them, and some segments have the outcome. Of
-- the forest an outcome reads no bytes.
pub record BlankOutcome (m : Machine) (f : Option PageForest) (command : Command) (answer : Answer)
    (next : Machine) (rises : MapperCounts) : Type 0 where
  pub whole : Machine
  pub whole_next : Machine
  pub segments : Segments
  pub whole_answer : Answer
  pub is : m ≡ blank whole
  pub is_next : next ≡ blank whole_next
  pub pages : HasWholePages whole
  pub alike : IsAlike whole_answer answer
  pub outcome : Outcome whole f command segments whole_answer whole_next rises

-- the outcome, where the segments are told and where they aren't
abbrev pub OutcomeAt : Option Segments → Machine → Option PageForest → Command → Answer → Machine
    → MapperCounts → Type 0
OutcomeAt (Some h) m f command answer next rises = Outcome m f command h answer next rises
OutcomeAt None m f command answer next rises = BlankOutcome m f command answer next rises

-- without bytes where nothing is told
abbrev pub seen_at : {H : Type 0} → Option H → Machine → Machine
seen_at (Some h) m = m
seen_at None m = blank m
