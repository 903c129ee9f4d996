-- What the inner calls say that give a process one more part.
use Rattle.std.specs.Prelude.{◌≡◌, ◌≢◌, ◌⊎◌, ◌≤◌, ℕ, ◌+◌, ◌*◌, List, [], ◌∷◌, ◌++◌, length, take, drop, replicate, Option, Some, None, slice_get, slice_set, Result, Ok, Err, IfErr, IfSome, OnOk, true}
use Rattle.vm_ids.specs.Counting.{MapperCounts, Rise}
use Rattle.vm_ids.specs.Held.{Held, Segments, segments_of}
use Rattle.vm_ids.specs.declared.command.Command.TheVariants.{Map}
use Rattle.vm_ids.specs.declared.command.Mapping.{Mapping}
use Rattle.vm_ids.specs.declared.numbers.ActorId.{ActorId}
use Rattle.vm_ids.specs.declared.numbers.CacheId.{CacheId}
use Rattle.vm_ids.specs.declared.numbers.PageNo.{PageNo}
use Rattle.vm_ids.specs.declared.numbers.RegionId.{RegionId}
use Rattle.vm_ids.specs.declared.reply.Reply.TheVariants.{Region}
use Rattle.vm_ids.specs.declared.reply.Trouble.{Trouble}
use Rattle.vm_ids.specs.declared.reply.Trouble.TheVariants.{Memory}
use Rattle.vm_model.specs.Machine.{Cache, Machine, Page, cache_of, numbered, zero_page}
use Rattle.vm_port.specs.declared.traits.mapper.Mapper.{Ghosts as GhostsOfMapper}
use Rattle.gmi_calls.specs.Calling.{CallDone}
use Rattle.gmi_calls.specs.Managing.{meanings_of}
use Rattle.gmi_calls.specs.declared.gmi.Gmi.{Ghosts as GhostsOfGmi}
use Rattle.mix_process.specs.Inner.{spare_of}
use Rattle.mix_process.specs.Outcome.{Usage, usage_of, usage_to_grow}
use Rattle.mix_process.specs.ProcessMachine as model
use Rattle.mix_process.specs.ProcessMachine.{ProcessMachine, may_write}
use Rattle.mix_process.specs.Seen.{cache_pages, mapping_behind, pages_in, part_seen, process_seen, processes_seen}
use Rattle.mix_process.specs.Tying.{AreAble, CanCall, IsOwnCache, IsOwnPart, IsPart}
use Rattle.mix_process.specs.Use.{IsLack, IsWithin, usage_sum}
use Rattle.mix_process.specs.declared.area.Area.{Area}
use Rattle.mix_process.specs.declared.area.Area.TheVariants.{Data, Stack, Text}
use Rattle.mix_process.specs.declared.area.TheConstants.{MOST_DATA, MOST_STACK, MOST_TEXT}
use Rattle.mix_process.specs.declared.mix.Mix.{Mix}
use Rattle.mix_process.specs.declared.process.Part.{Part}
use Rattle.mix_process.specs.declared.process.Process.{Process}

-- how many pages an area may have
abbrev pub most_of : Area → ℕ
most_of Text = MOST_TEXT
most_of Data = MOST_DATA
most_of Stack = MOST_STACK

-- This process stands at this place of the table, and its area has room for so many pages more:
-- behind what it has where it is data, or else as its only part.
pub record HasRoom (processes : List (Option Process)) (place : ℕ) (process : Process) (area : Area)
    (pages : ℕ) : Type 0 where
  pub there : slice_get processes place ≡ Some (Some process)
  pub some : 1 ≤ pages
  pub few : pages_in area process.parts.items + pages ≤ most_of area
  pub first : area ≢ Data → pages_in area process.parts.items ≡ 0

-- This process stands at this place of the table instead, with these parts more; all others stay.
pub record IsPutAt {Manager : Type 0} (old : Mix Manager) (place : ℕ) (process : Process)
    (parts : List Part) (new : Mix Manager) : Type 0 where
  pub now : Process
  pub processes : new.processes.items ≡ slice_set old.processes.items place (Some now)
  pub images : new.images ≡ old.images
  pub actor : now.actor ≡ process.actor
  pub parts_now : now.parts.items ≡ process.parts.items ++ parts

-- a process with these pages more in an area, as one piece more
abbrev pub with_more : Area → List Page → model.Process → model.Process
with_more Text pages p = record p { text_pages = p.text_pages ++ pages }
with_more Data pages p =
    record p { data_pages = p.data_pages ++ pages; pieces = p.pieces ++ length pages ∷ [] }
with_more Stack pages p = record p { stack_pages = p.stack_pages ++ pages }

-- the machine with this process at a place
abbrev pub put_at : ProcessMachine → ℕ → model.Process → ProcessMachine
put_at m place p = record m { processes = slice_set m.processes place (Some p) }

-- each cache that was there is as it was
abbrev pub AreKept : Machine → Machine → Type 0
AreKept m next = (cache : ℕ) (c : Cache) → cache_of m cache ≡ Some c → cache_of next cache ≡ Some c

-- A part that is mapped

-- a region more
abbrev pub usage_to_map : Usage
usage_to_map = record { living = 0; actors = 0; caches = 0; regions = 1; pages = 0 }

-- how far it may raise the number that bounds the manager's counters
abbrev pub map_budget : Machine → Part → ℕ
map_budget m part = 8 * (part.pages + length (cache_pages m part.cache.0)) + 8

-- the parts that a process has then: one more where it was mapped
abbrev pub parts_then : List Part → Part → Result (Unit {0}) Trouble → List Part
parts_then parts part (Ok u) = parts ++ part ∷ []
parts_then parts part (Err trouble) = parts

-- The manager answered the map, or wasn't called for want of memory.
abbrev pub MapCalled : {Manager Mapper Chooser : Type 0} → GhostsOfGmi Manager Mapper Chooser
    → Manager → ActorId → Mapping → Result (Unit {0}) Trouble → Manager → Type 0
MapCalled G old actor mapping (Ok u) new = (region : RegionId)
    × CallDone (meanings_of G) old (Map actor mapping) (Ok (Region region)) new
MapCalled G old actor mapping (Err trouble) new = ((trouble ≡ Memory) × (new ≡ old))
    ⊎ CallDone (meanings_of G) old (Map actor mapping) (Err trouble) new

-- A part was mapped into a process, or there was a lack.
pub record MapsInto {Manager Mapper Chooser : Type 0} (G : GhostsOfGmi Manager Mapper Chooser)
    (old : Manager) (process : Process) (part : Part) (result : Result (Unit {0}) Trouble)
    (new : Manager) (now : Process) : Type 0 where
  pub actor : now.actor ≡ process.actor
  pub parts : now.parts.items ≡ parts_then process.parts.items part result
  pub call : MapCalled G old process.actor (mapping_behind process.parts.items part) result new

-- The part can be mapped into the process at this place. Its cache is spare, where it is to be the
-- process's own.
pub record MayMap {Manager Mapper Chooser : Type 0} (G : GhostsOfGmi Manager Mapper Chooser)
    (told : Option Held) (page_bytes : Option ℕ) (mix : Mix Manager) (place : ℕ) (process : Process)
    (part : Part) : Type 0 where
  pub able : AreAble G mix.gmi mix.images.items told page_bytes (length mix.processes.items)
      (numbered mix.processes.items) (spare_of (part ∷ []))
  pub room : HasRoom mix.processes.items place process part.area part.pages
  pub is_part : IsPart (G.machine mix.gmi told) part.area part

-- The part was mapped.
pub record IsMapped {Manager Mapper Chooser : Type 0} (G : GhostsOfGmi Manager Mapper Chooser)
    (told : Option Held) (page_bytes : Option ℕ) (old : Mix Manager) (place : ℕ) (process : Process)
    (part : Part) (new : Mix Manager) : Type 0 where
  pub can : CanCall G new told page_bytes
  pub put : IsPutAt old place process (part ∷ []) new
  pub seen : processes_seen (G.machine new.gmi told) new.processes.items new.images.items
      ≡ put_at (processes_seen (G.machine old.gmi told) old.processes.items old.images.items) place
      (with_more part.area (part_seen (G.machine old.gmi told) part)
      (process_seen (G.machine old.gmi told) process))
  pub kept : AreKept (G.machine old.gmi told) (G.machine new.gmi told)
  pub used : IsWithin (usage_of (G.machine new.gmi told))
      (usage_sum (usage_of (G.machine old.gmi told)) usage_to_map)
  pub made : G.made new.gmi ≤ G.made old.gmi + map_budget (G.machine old.gmi told) part

-- The part couldn't be mapped, and all stays.
pub record IsUnmapped {Manager Mapper Chooser : Type 0} (G : GhostsOfGmi Manager Mapper Chooser)
    (told : Option Held) (page_bytes : Option ℕ) (old : Mix Manager) (place : ℕ) (process : Process)
    (part : Part) (trouble : Trouble) (new : Mix Manager) : Type 0 where
  pub able : AreAble G new.gmi new.images.items told page_bytes (length new.processes.items)
      (numbered new.processes.items) (spare_of (part ∷ []))
  pub put : IsPutAt old place process [] new
  pub machine : G.machine new.gmi told ≡ G.machine old.gmi told
  pub seen : processes_seen (G.machine new.gmi told) new.processes.items new.images.items
      ≡ processes_seen (G.machine old.gmi told) old.processes.items old.images.items
  pub made : G.made new.gmi ≤ G.made old.gmi + map_budget (G.machine old.gmi told) part
  pub lack : IsLack (usage_of (G.machine old.gmi told)) usage_to_map trouble

abbrev pub MapsPart : {Manager Mapper Chooser : Type 0} → GhostsOfGmi Manager Mapper Chooser
    → Option Held → Option ℕ → Mix Manager → ℕ → Process → Part → Result (Unit {0}) Trouble
    → Mix Manager → Type 0
MapsPart G told page_bytes old place process part (Ok u) new =
    IsMapped G told page_bytes old place process part new
MapsPart G told page_bytes old place process part (Err trouble) new =
    IsUnmapped G told page_bytes old place process part trouble new

-- Pages of its own

-- the first of the pages that are copied, and its cache
abbrev pub Source : Type 0
Source = CacheId × PageNo

-- a page of a new temporary cache: zeros, or without bytes where nothing is told
abbrev pub fresh_page : Option Segments → ℕ → Page
fresh_page (Some h) page_bytes = zero_page page_bytes
fresh_page None page_bytes = []

-- the pages that a process gets: those from the source on, or fresh ones
abbrev pub pages_from : Option Segments → Machine → Option Source → ℕ → List Page
pages_from told m (Some source) pages = take pages (drop source.1.0 (cache_pages m source.0.0))
pages_from told m None pages = replicate pages (fresh_page told m.page_bytes)

-- the pages are there
abbrev pub HasSource : Machine → Option Source → ℕ → Type 0
HasSource m source pages = IfSome source (λ s.
    (c : Cache) × (cache_of m s.0.0 ≡ Some c) × (s.1.0 + pages ≤ length c.pages))

abbrev pub source_pages : Machine → Option Source → ℕ
source_pages m (Some source) = length (cache_pages m source.0.0)
source_pages m None = 0

-- how far such pages may raise the number that bounds the manager's counters
abbrev pub own_budget : Machine → Option Source → ℕ → ℕ
own_budget m source pages = 80 * pages + 8 * source_pages m source

-- The process at this place can get so many pages of its own, if there is memory for them.
pub record MayAdd (m : Machine) (processes : List (Option Process)) (place : ℕ) (process : Process)
    (area : Area) (pages : ℕ) (source : Option Source) : Type 0 where
  pub room : HasRoom processes place process area pages
  pub own : may_write area ≡ true
  pub source_there : HasSource m source pages

-- The fill of a spare cache

-- each cache that was there is as it was, but for this one
abbrev pub AreKeptBut : ℕ → Machine → Machine → Type 0
AreKeptBut one m next = (cache : ℕ) (c : Cache) → cache ≢ one → cache_of m cache ≡ Some c
    → cache_of next cache ≡ Some c

-- The cache of the part is spare, and has just the part's pages. It is to be a process's own.
pub record HasSpare {Manager Mapper Chooser : Type 0} (M : GhostsOfMapper Mapper)
    (G : GhostsOfGmi Manager Mapper Chooser) (mapper : Mapper) (mix : Mix Manager) (part : Part)
    : Type 0 where
  pub able : AreAble G mix.gmi mix.images.items (M.held mapper) (M.page_bytes mapper)
      (length mix.processes.items) (numbered mix.processes.items) (spare_of (part ∷ []))
  pub own : IsOwnPart part
  pub cache : IsOwnCache (G.machine mix.gmi (M.held mapper)) part

-- the source has the pages for the part, and is another cache
abbrev pub IsSourceOf : Machine → Part → Option Source → Type 0
IsSourceOf m part source =
    HasSource m source part.pages × IfSome source (λ s. s.0.0 ≢ part.cache.0)

-- the pages that a part's cache gets: those from the source on, or what it has
abbrev pub filled : Machine → Part → Option Source → List Page
filled m part (Some source) = take part.pages (drop source.1.0 (cache_pages m source.0.0))
filled m part None = cache_pages m part.cache.0

abbrev pub fill_budget : Machine → Part → Option Source → ℕ
fill_budget m part source = 16 * part.pages + 8 * source_pages m source + 8

-- A spare cache was filled, or there is no memory for it.
pub record IsFilled {Manager Mapper Chooser : Type 0} (M : GhostsOfMapper Mapper)
    (G : GhostsOfGmi Manager Mapper Chooser) (before : Mapper) (old : Mix Manager) (part : Part)
    (source : Option Source) (result : Result (Unit {0}) Trouble) (after : Mapper)
    (new : Mix Manager) : Type 0 where
  pub has : HasSpare M G after new part
  pub same : new ≡ record old { gmi = new.gmi }
  pub pages : OnOk result (cache_pages (G.machine new.gmi (M.held after)) part.cache.0
      ≡ filled (G.machine old.gmi (M.held before)) part source)
  pub kept : AreKeptBut part.cache.0 (G.machine old.gmi (M.held before))
      (G.machine new.gmi (M.held after))
  pub seen : processes_seen (G.machine new.gmi (M.held after)) old.processes.items old.images.items
      ≡ processes_seen (G.machine old.gmi (M.held before)) old.processes.items old.images.items
  pub used : IsWithin (usage_of (G.machine new.gmi (M.held after)))
      (usage_of (G.machine old.gmi (M.held before)))
  pub lack : IfErr result (λ trouble. trouble ≡ Memory)
  pub made : G.made new.gmi
      ≤ G.made old.gmi + fill_budget (G.machine old.gmi (M.held before)) part source
  pub rises : MapperCounts
  pub rose : Rise (M.counts before) (M.counts after) rises
  pub segments : segments_of (M.held after) ≡ segments_of (M.held before)

-- The part has a spare cache and a source, and can be mapped into the process.
pub record MayFill {Manager Mapper Chooser : Type 0} (M : GhostsOfMapper Mapper)
    (G : GhostsOfGmi Manager Mapper Chooser) (mapper : Mapper) (mix : Mix Manager) (place : ℕ)
    (process : Process) (part : Part) (source : Option Source) : Type 0 where
  pub spare : HasSpare M G mapper mix part
  pub room : HasRoom mix.processes.items place process part.area part.pages
  pub source_there : IsSourceOf (G.machine mix.gmi (M.held mapper)) part source

-- The part is filled and mapped.
pub record HasMapped {Manager Mapper Chooser : Type 0} (M : GhostsOfMapper Mapper)
    (G : GhostsOfGmi Manager Mapper Chooser) (before : Mapper) (old : Mix Manager) (place : ℕ)
    (process : Process) (part : Part) (source : Option Source) (after : Mapper) (new : Mix Manager)
    : Type 0 where
  pub can : CanCall G new (M.held after) (M.page_bytes after)
  pub put : IsPutAt old place process (part ∷ []) new
  pub has : cache_pages (G.machine new.gmi (M.held after)) part.cache.0
      ≡ filled (G.machine old.gmi (M.held before)) part source
  pub seen : processes_seen (G.machine new.gmi (M.held after)) new.processes.items new.images.items
      ≡ put_at
      (processes_seen (G.machine old.gmi (M.held before)) old.processes.items old.images.items)
      place (with_more part.area (filled (G.machine old.gmi (M.held before)) part source)
      (process_seen (G.machine old.gmi (M.held before)) process))
  pub used : IsWithin (usage_of (G.machine new.gmi (M.held after)))
      (usage_sum (usage_of (G.machine old.gmi (M.held before))) usage_to_map)

-- It isn't, and its cache is spare still.
pub record HasNotMapped {Manager Mapper Chooser : Type 0} (M : GhostsOfMapper Mapper)
    (G : GhostsOfGmi Manager Mapper Chooser) (before : Mapper) (old : Mix Manager) (place : ℕ)
    (process : Process) (part : Part) (trouble : Trouble) (after : Mapper) (new : Mix Manager)
    : Type 0 where
  pub spare : HasSpare M G after new part
  pub put : IsPutAt old place process [] new
  pub seen : processes_seen (G.machine new.gmi (M.held after)) new.processes.items new.images.items
      ≡ processes_seen (G.machine old.gmi (M.held before)) old.processes.items old.images.items
  pub used : IsWithin (usage_of (G.machine new.gmi (M.held after)))
      (usage_of (G.machine old.gmi (M.held before)))
  pub lack : IsLack (usage_of (G.machine old.gmi (M.held before))) usage_to_map trouble

abbrev pub MapsFilled : {Manager Mapper Chooser : Type 0} → GhostsOfMapper Mapper
    → GhostsOfGmi Manager Mapper Chooser → Mapper → Mix Manager → ℕ → Process → Part
    → Option Source → Result (Unit {0}) Trouble → Mapper → Mix Manager → Type 0
MapsFilled M G before old place process part source (Ok u) after new =
    HasMapped M G before old place process part source after new
MapsFilled M G before old place process part source (Err trouble) after new =
    HasNotMapped M G before old place process part trouble after new

-- A part was filled and mapped, or there was a lack.
pub record FillsAndMaps {Manager Mapper Chooser : Type 0} (M : GhostsOfMapper Mapper)
    (G : GhostsOfGmi Manager Mapper Chooser) (before : Mapper) (old : Mix Manager) (place : ℕ)
    (process : Process) (part : Part) (source : Option Source)
    (result : Result (Unit {0}) Trouble) (after : Mapper) (new : Mix Manager) : Type 0 where
  pub maps : MapsFilled M G before old place process part source result after new
  pub kept : AreKeptBut part.cache.0 (G.machine old.gmi (M.held before))
      (G.machine new.gmi (M.held after))
  pub made : G.made new.gmi
      ≤ G.made old.gmi + fill_budget (G.machine old.gmi (M.held before)) part source
      + 16 * part.pages + 8
  pub rises : MapperCounts
  pub rose : Rise (M.counts before) (M.counts after) rises
  pub segments : segments_of (M.held after) ≡ segments_of (M.held before)

-- The growth of a process

-- Of the process: it has the pages, as a part with a cache of its own; or it is as it was.
pub record HasAdded {Manager : Type 0} (m next : Machine) (told : Option Segments)
    (old : Mix Manager) (place : ℕ) (process : Process) (area : Area) (pages : ℕ)
    (source : Option Source) (new : Mix Manager) : Type 0 where
  pub part : Part
  pub area_is : part.area ≡ area
  pub pages_is : part.pages ≡ pages
  pub put : IsPutAt old place process (part ∷ []) new
  pub has : cache_pages next part.cache.0 ≡ pages_from told m source pages
  pub seen : processes_seen next new.processes.items new.images.items
      ≡ put_at (processes_seen m old.processes.items old.images.items) place
      (with_more area (pages_from told m source pages) (process_seen m process))

pub record HasNotAdded {Manager : Type 0} (m next : Machine) (old : Mix Manager) (place : ℕ)
    (process : Process) (pages : ℕ) (trouble : Trouble) (new : Mix Manager) : Type 0 where
  pub put : IsPutAt old place process [] new
  pub seen : processes_seen next new.processes.items new.images.items
      ≡ processes_seen m old.processes.items old.images.items
  pub lack : IsLack (usage_of m) (usage_to_grow pages) trouble

abbrev pub Adds : {Manager : Type 0} → Machine → Machine → Option Segments → Mix Manager → ℕ
    → Process → Area → ℕ → Option Source → Result (Unit {0}) Trouble → Mix Manager → Type 0
Adds m next told old place process area pages source (Ok u) new =
    HasAdded m next told old place process area pages source new
Adds m next told old place process area pages source (Err trouble) new =
    HasNotAdded m next old place process pages trouble new

-- A process got pages of its own, or there was a lack.
pub record IsAdded {Manager Mapper Chooser : Type 0} (M : GhostsOfMapper Mapper)
    (G : GhostsOfGmi Manager Mapper Chooser) (before : Mapper) (old : Mix Manager) (place : ℕ)
    (process : Process) (area : Area) (pages : ℕ) (source : Option Source)
    (result : Result (Unit {0}) Trouble) (after : Mapper) (new : Mix Manager) : Type 0 where
  pub can : CanCall G new (M.held after) (M.page_bytes after)
  pub adds : Adds (G.machine old.gmi (M.held before)) (G.machine new.gmi (M.held after))
      (segments_of (M.held before)) old place process area pages source result new
  pub kept : AreKept (G.machine old.gmi (M.held before)) (G.machine new.gmi (M.held after))
  pub used : IsWithin (usage_of (G.machine new.gmi (M.held after)))
      (usage_sum (usage_of (G.machine old.gmi (M.held before))) (usage_to_grow pages))
  pub made : G.made new.gmi
      ≤ G.made old.gmi + own_budget (G.machine old.gmi (M.held before)) source pages
  pub rises : MapperCounts
  pub rose : Rise (M.counts before) (M.counts after) rises
  pub segments : segments_of (M.held after) ≡ segments_of (M.held before)
