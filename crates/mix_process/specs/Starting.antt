-- What the inner calls say that find an image and make a process, and that take it back.
use Rattle.std.specs.Prelude.{◌≡◌, ◌==◌, ◌<◌, ◌≤◌, ℕ, ◌+◌, ◌*◌, List, [], ◌∷◌, ◌++◌, length, Option, Some, None, Result, Ok, Err, IfSome, if◌then◌else◌}
use Rattle.std.specs.Bool.{IsTrue}
use Rattle.std.specs.FinMap.{get}
use Rattle.std.specs.Option.{option_map_or}
use Rattle.vm_ids.specs.Counting.{MapperCounts, Rise}
use Rattle.vm_ids.specs.Held.{Held, Segments, segments_of}
use Rattle.vm_ids.specs.declared.numbers.CacheId.{CacheId}
use Rattle.vm_ids.specs.declared.numbers.ProcId.{ProcId}
use Rattle.vm_ids.specs.declared.numbers.SegId.{SegId}
use Rattle.vm_ids.specs.declared.refusal.Refusal.TheVariants.{BadImage, NoSegment, TooMany}
use Rattle.vm_ids.specs.declared.reply.FaultAt.TheVariants.{Opening}
use Rattle.vm_ids.specs.declared.reply.Trouble.{Trouble}
use Rattle.vm_ids.specs.declared.reply.Trouble.TheVariants.{Mapper, Memory, Refused}
use Rattle.vm_model.specs.Machine.{Machine, Page}
use Rattle.vm_model.specs.declared.limits.TheConstants.{LIVE_PAGES, MOST_MADE}
use Rattle.vm_port.specs.declared.traits.mapper.Mapper.{Ghosts as GhostsOfMapper}
use Rattle.gmi_calls.specs.declared.gmi.Gmi.{Ghosts as GhostsOfGmi}
use Rattle.mix_process.specs.Answering.{with_image}
use Rattle.mix_process.specs.Inner.{IsMadeAlike, end_budget}
use Rattle.mix_process.specs.Outcome.{Usage, usage_of, would_pass}
use Rattle.mix_process.specs.Seen.{cache_pages, processes_seen}
use Rattle.mix_process.specs.Tying.{CanCall}
use Rattle.mix_process.specs.Use.{IsLack, IsWithin, usage_sum}
use Rattle.mix_process.specs.declared.mix.Image.{Image}
use Rattle.mix_process.specs.declared.mix.Mix.{Mix}
use Rattle.mix_process.specs.declared.process.Process.{Process}

-- Images

-- the first of these images that is of the segment
abbrev pub image_for : List Image → ℕ → Option Image
image_for [] seg = None
image_for (i ∷ images) seg = if i.seg.0 == seg then Some i else image_for images seg

-- the opening of a segment that holds these pages makes a cache of them
abbrev pub usage_to_open : Option (List Page) → Usage
usage_to_open held =
    record { living = 0; actors = 0; caches = 1; regions = 0; pages = option_map_or length held 0 }

-- what a segment holds, where that is told
abbrev pub HoldsIn : Option Segments → ℕ → Option (List Page) → Type 0
HoldsIn told seg held = IfSome told (λ h. get h.pages seg ≡ held)

-- how far the opening of an image may raise the number that bounds the manager's counters
abbrev pub open_budget : ℕ
open_budget = 8 * LIVE_PAGES + 8

-- The cache is that of the segment's image, which was made if there was none of it. `m` is the
-- machine before and `next` the one after.
pub record HasImage (m next : Machine) (processes : List (Option Process))
    (before after : List Image) (seg : SegId) (cache : CacheId) : Type 0 where
  pub image : Image
  pub found : image_for after seg.0 ≡ Some image
  pub is : image.cache ≡ cache
  pub seen : processes_seen next processes after
      ≡ with_image (processes_seen m processes before) seg.0 (Some (cache_pages next cache.0))
  pub used : IsWithin (usage_of next)
      (usage_sum (usage_of m) (usage_to_open (Some (cache_pages next cache.0))))

-- Why there is no image of the segment. It is of the machine before, which stays.
abbrev pub LacksImage : Machine → Option Segments → ℕ → MapperCounts → Trouble → Type 0
LacksImage m told seg rises Memory = Unit {0}
LacksImage m told seg rises (Refused TooMany) = (held : Option (List Page))
    × HoldsIn told seg held × IsTrue (would_pass (usage_of m) (usage_to_open held))
LacksImage m told seg rises (Refused NoSegment) = HoldsIn told seg None
LacksImage m told seg rises (Mapper Opening) =
    (0 < rises.faults) × (length m.caches < MOST_MADE)
LacksImage m told seg rises trouble = ⊥

-- All stays, for want of an image.
pub record IsUnopened (m next : Machine) (told : Option Segments) (before after : List Image)
    (seg : ℕ) (rises : MapperCounts) (trouble : Trouble) : Type 0 where
  pub none : image_for before seg ≡ None
  pub machine : next ≡ m
  pub images : after ≡ before
  pub why : LacksImage m told seg rises trouble

abbrev pub Opens : Machine → Machine → Option Segments → List (Option Process) → List Image
    → List Image → SegId → MapperCounts → Result CacheId Trouble → Type 0
Opens m next told processes before after seg rises (Ok cache) =
    HasImage m next processes before after seg cache
Opens m next told processes before after seg rises (Err trouble) =
    IsUnopened m next told before after seg.0 rises trouble

-- The image of a segment was found or made.
pub record IsOpened {Manager Mapper Chooser : Type 0} (M : GhostsOfMapper Mapper)
    (G : GhostsOfGmi Manager Mapper Chooser) (before : Mapper) (old : Mix Manager) (seg : SegId)
    (result : Result CacheId Trouble) (after : Mapper) (new : Mix Manager) : Type 0 where
  pub can : CanCall G new (M.held after) (M.page_bytes after)
  pub processes : new.processes ≡ old.processes
  pub made : G.made new.gmi ≤ G.made old.gmi + open_budget
  pub segments : segments_of (M.held after) ≡ segments_of (M.held before)
  pub rises : MapperCounts
  pub rose : Rise (M.counts before) (M.counts after) rises
  pub opens : Opens (G.machine old.gmi (M.held before)) (G.machine new.gmi (M.held after))
      (segments_of (M.held after)) old.processes.items old.images.items new.images.items seg rises
      result

-- a refusal of the manager is one of the image
abbrev pub as_bad_image : Trouble → Trouble
as_bad_image (Refused refusal) = Refused BadImage
as_bad_image trouble = trouble

-- whether a cache has so many pages, where there is memory to ask
abbrev pub Checks : List Page → ℕ → Result (Unit {0}) Trouble → Type 0
Checks has pages (Ok u) = pages ≤ length has
Checks has pages (Err Memory) = Unit {0}
Checks has pages (Err (Refused BadImage)) = length has < pages
Checks has pages (Err trouble) = ⊥

-- The start of a process

-- how far the start of a process may raise the number that bounds the manager's counters
abbrev pub start_budget : ℕ
start_budget = 8

-- A process without parts stands last, with a new actor.
pub record HasStarted (m next : Machine) (before after : List (Option Process)) : Type 0 where
  pub process : Process
  pub table : after ≡ before ++ Some process ∷ []
  pub bare : process.parts.items ≡ []
  pub machine : next ≡ record m { actors = m.actors ++ Some [] ∷ [] }

abbrev pub usage_to_start : Usage
usage_to_start = record { living = 1; actors = 1; caches = 0; regions = 0; pages = 0 }

-- All stays.
pub record IsUnstarted (m next : Machine) (before after : List (Option Process)) (trouble : Trouble)
    : Type 0 where
  pub table : after ≡ before
  pub machine : next ≡ m
  pub why : IsLack (usage_of m) usage_to_start trouble

abbrev pub Starts : Machine → Machine → List (Option Process) → List (Option Process)
    → Result (Unit {0}) Trouble → Type 0
Starts m next before after (Ok u) = HasStarted m next before after
Starts m next before after (Err trouble) = IsUnstarted m next before after trouble

-- A process was started, whatever the mapper holds.
pub record IsStarted {Manager Mapper Chooser : Type 0} (G : GhostsOfGmi Manager Mapper Chooser)
    (told : Option Held) (page_bytes : Option ℕ) (old : Mix Manager)
    (result : Result (Unit {0}) Trouble) (new : Mix Manager) : Type 0 where
  pub can : CanCall G new told page_bytes
  pub images : new.images ≡ old.images
  pub made : G.made new.gmi ≤ G.made old.gmi + start_budget
  pub starts : Starts (G.machine old.gmi told) (G.machine new.gmi told) old.processes.items
      new.processes.items result

-- The end of one that couldn't be made whole

-- The last number is that of a living process.
pub record IsLastAlive (table : List (Option Process)) : Type 0 where
  pub front : List (Option Process)
  pub process : Process
  pub is : table ≡ front ++ Some process ∷ []

-- The last process was ended, and has no number any more.
pub record IsTakenBack {Manager Mapper Chooser : Type 0} (M : GhostsOfMapper Mapper)
    (G : GhostsOfGmi Manager Mapper Chooser) (before : Mapper) (old : Mix Manager)
    (trouble : Trouble) (result : Result ProcId Trouble) (after : Mapper) (new : Mix Manager)
    : Type 0 where
  pub is : result ≡ Err trouble
  pub process : Process
  pub table : old.processes.items ≡ new.processes.items ++ Some process ∷ []
  pub images : new.images ≡ old.images
  pub can : CanCall G new (M.held after) (M.page_bytes after)
  pub seen : processes_seen (G.machine new.gmi (M.held after)) new.processes.items old.images.items
      ≡ processes_seen (G.machine old.gmi (M.held before)) new.processes.items old.images.items
  pub made : G.made new.gmi ≤ G.made old.gmi + end_budget
  pub alike : IsMadeAlike (G.machine old.gmi (M.held before)) (G.machine new.gmi (M.held after))
  pub segments : segments_of (M.held after) ≡ segments_of (M.held before)
  pub rises : MapperCounts
  pub rose : Rise (M.counts before) (M.counts after) rises

-- The last process stays, and its number is told.
pub record IsWhole {Manager Mapper : Type 0} (before : Mapper) (old : Mix Manager)
    (result : Result ProcId Trouble) (after : Mapper) (new : Mix Manager) : Type 0 where
  pub is : result ≡ Ok (record { 0 = length old.processes.items })
  pub same : new ≡ old
  pub mapper : after ≡ before

-- The last process is whole, or was taken back.
abbrev pub IsMadeOrTakenBack : {Manager Mapper Chooser : Type 0} → GhostsOfMapper Mapper
    → GhostsOfGmi Manager Mapper Chooser → Mapper → Mix Manager → Result (Unit {0}) Trouble
    → Result ProcId Trouble → Mapper → Mix Manager → Type 0
IsMadeOrTakenBack M G before old (Ok u) result after new = IsWhole before old result after new
IsMadeOrTakenBack M G before old (Err trouble) result after new =
    IsTakenBack M G before old trouble result after new
