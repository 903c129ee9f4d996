-- How the processes are tied to the machine that their manager stands for.
use Rattle.std.specs.Prelude.{◌≡◌, ◌≢◌, ◌≤◌, ◌⊎◌, ℕ, false, true, List, [], ◌∷◌, ◌++◌, length, Option, Some, None, slice_get, IfNone, IfSome}
use Rattle.std.specs.List.{AllByRecursion, list_any}
use Rattle.std.specs.FinMap.{get}
use Rattle.vm_ids.specs.Held.{Held}
use Rattle.vm_model.specs.Answering.{insert_region, overlaps}
use Rattle.vm_model.specs.Machine.{Actor, Cache, Machine, Region, actor_of, cache_of, live_pages, living_actors, numbered}
use Rattle.vm_model.specs.Outcome.{blank}
use Rattle.vm_model.specs.Regions.{mapping_of}
use Rattle.vm_model.specs.declared.limits.TheConstants.{LIVE_PAGES, LIVING_ACTORS, MOST_MADE}
use Rattle.gmi_calls.specs.Calling.{Fits}
use Rattle.gmi_calls.specs.declared.gmi.Gmi.{Ghosts as GhostsOfGmi}
use Rattle.mix_process.specs.ProcessMachine.{may_write}
use Rattle.mix_process.specs.Seen.{cache_pages, mapping_behind, pages_in}
use Rattle.mix_process.specs.declared.area.Area.TheVariants.{Data, Stack, Text}
use Rattle.mix_process.specs.declared.area.Area.{Area}
use Rattle.mix_process.specs.declared.mix.Image.{Image}
use Rattle.mix_process.specs.declared.mix.Mix.{Mix}
use Rattle.mix_process.specs.declared.process.Part.{Part}
use Rattle.mix_process.specs.declared.process.Process.{Process}

-- The region of a part that was mapped behind these, where it overlaps none of theirs.
pub record IsRegionOf (before : List Part) (regions : Actor) (p : Part) (r : Region) : Type 0 where
  pub mapping : mapping_of r ≡ mapping_behind before p
  pub unlocked : r.locked ≡ false
  pub apart : list_any (overlaps 4096 r.start r.pages) regions ≡ false

-- The regions of an actor are those of the parts, which were mapped one behind the other.
pub data AreMapped : List Part → Actor → Type 0 where
  none : AreMapped [] []
  more : (before : List Part) (regions : Actor) (p : Part) (r : Region)
      → AreMapped before regions → IsRegionOf before regions p r
      → AreMapped (before ++ p ∷ []) (insert_region r regions)

-- A cache of its own of a process, with just the pages of the part.
pub record IsOwnCache (m : Machine) (p : Part) : Type 0 where
  pub cache : Cache
  pub there : cache_of m p.cache.0 ≡ Some cache
  pub temporary : cache.segment ≡ None
  pub some : 1 ≤ p.pages
  pub many : length cache.pages ≡ p.pages

-- The cache of an image, which has the pages of the part and may have more.
pub record IsImageCache (m : Machine) (p : Part) : Type 0 where
  pub cache : Cache
  pub seg : ℕ
  pub there : cache_of m p.cache.0 ≡ Some cache
  pub named : cache.segment ≡ Some seg
  pub some : 1 ≤ p.pages
  pub many : p.pages ≤ length cache.pages

abbrev pub IsPart : Machine → Area → Part → Type 0
IsPart m Text p = IsImageCache m p
IsPart m Data p = IsOwnCache m p
IsPart m Stack p = IsOwnCache m p

-- the areas are so small that no two share an address
pub record IsSmall (parts : List Part) : Type 0 where
  pub text : pages_in Text parts ≤ 1024
  pub data_pages : pages_in Data parts ≤ 65536
  pub stack : pages_in Stack parts ≤ 1024

-- Text and stack are one part each.
abbrev pub IsSingle : List Part → Type 0
IsSingle parts = (before behind : List Part) (part : Part) → parts ≡ before ++ part ∷ behind
    → part.area ≢ Data → pages_in part.area before ≡ 0

-- A process is an actor with the parts mapped, each of a live cache.
pub record IsRun (m : Machine) (p : Process) : Type 0 where
  pub regions : Actor
  pub there : actor_of m p.actor.0 ≡ Some regions
  pub mapped : AreMapped p.parts.items regions
  pub parts : AllByRecursion (λ (part : Part). IsPart m part.area part) p.parts.items
  pub small : IsSmall p.parts.items
  pub single : IsSingle p.parts.items

-- a part of a process whose cache is the process's own
abbrev pub IsOwnPart : Part → Type 0
IsOwnPart part = may_write part.area ≡ true

-- This process has this part, of its own.
pub record Owns (processes : ℕ → Option Process) (n i cache : ℕ) : Type 0 where
  pub process : Process
  pub part : Part
  pub there : processes n ≡ Some process
  pub has : slice_get process.parts.items i ≡ Some part
  pub own : IsOwnPart part
  pub is : part.cache.0 ≡ cache

-- The processes, by their numbers; and spare caches of none, which are to be mapped or destroyed.
-- The machine has no actors and caches but theirs and those of the images.
pub record AreTied (m : Machine) (processes : ℕ → Option Process) (spare : ℕ → Type 0)
    (images : List Image) : Type 0 where
  pub page : m.page_bytes ≡ 4096
  pub run : (n : ℕ) (p : Process) → processes n ≡ Some p → IsRun m p
  pub actors_apart : (n k : ℕ) (p q : Process) → processes n ≡ Some p → processes k ≡ Some q
      → p.actor.0 ≡ q.actor.0 → n ≡ k
  pub caches_apart : (n k i j cache : ℕ) → Owns processes n i cache → Owns processes k j cache
      → (n ≡ k) × (i ≡ j)
  pub spares : (cache : ℕ) → spare cache → (c : Cache)
      × (cache_of m cache ≡ Some c) × (c.segment ≡ None)
  pub spares_free : (n i cache : ℕ) → spare cache → Owns processes n i cache → ⊥
  pub no_more_actors : (actor : ℕ) (regions : Actor) → actor_of m actor ≡ Some regions
      → (n : ℕ) × (p : Process) × (processes n ≡ Some p) × (p.actor.0 ≡ actor)
  pub no_more_caches : (cache : ℕ) (c : Cache) → cache_of m cache ≡ Some c → c.segment ≡ None
      → spare cache ⊎ ((n : ℕ) × (i : ℕ) × Owns processes n i cache)
  pub images_there : (i : ℕ) (image : Image) → slice_get images i ≡ Some image → (c : Cache)
      × (cache_of m image.cache.0 ≡ Some c) × (c.segment ≡ Some image.seg.0)
  pub images_apart : (i j : ℕ) (image other : Image) → slice_get images i ≡ Some image
      → slice_get images j ≡ Some other → image.seg.0 ≡ other.seg.0 → i ≡ j
  pub no_more_images : (cache seg : ℕ) (c : Cache) → cache_of m cache ≡ Some c
      → c.segment ≡ Some seg → (i : ℕ) × (image : Image)
      × (slice_get images i ≡ Some image) × (image.cache.0 ≡ cache)

-- Where the mapper tells what it holds, it holds of each image what the image's cache has.
abbrev pub AreSynchronised : Machine → List Image → Option Held → Type 0
AreSynchronised m images told = IfSome told (λ h. (i : ℕ) (image : Image)
    → slice_get images i ≡ Some image
    → get h.segments image.seg.0 ≡ Some (cache_pages m image.cache.0))

-- where nothing is told, the machine has no bytes
abbrev pub IsUntoldBlank : Option Held → Machine → Type 0
IsUntoldBlank told m = IfNone told (m ≡ blank m)

-- no cache is spare
abbrev pub none_spare : ℕ → Type 0
none_spare cache = ⊥

-- What it takes to call the manager, given what the mapper holds and how many bytes its pages have,
-- where that is told; which processes are tied to it, and which caches are spare. `G` is the ghost
-- members of the manager.
pub record AreAble {Manager Mapper Chooser : Type 0} (G : GhostsOfGmi Manager Mapper Chooser)
    (gmi : Manager) (images : List Image) (told : Option Held) (page_bytes : Option ℕ) (made : ℕ)
    (processes : ℕ → Option Process) (spare : ℕ → Type 0) : Type 0 where
  pub valid : G.valid gmi told
  pub unlimited : G.room gmi ≡ None
  pub fits : Fits page_bytes (G.machine gmi told)
  pub live : live_pages (G.machine gmi told) ≤ LIVE_PAGES
  pub living : living_actors (G.machine gmi told) ≤ LIVING_ACTORS
  pub few : made ≤ length (G.machine gmi told).actors
  pub most : length (G.machine gmi told).actors ≤ MOST_MADE
  pub tied : AreTied (G.machine gmi told) processes spare images
  pub synchronised : AreSynchronised (G.machine gmi told) images told
  pub blank : IsUntoldBlank told (G.machine gmi told)

-- what it takes to call the processes
abbrev pub CanCall : {Manager Mapper Chooser : Type 0} → GhostsOfGmi Manager Mapper Chooser
    → Mix Manager → Option Held → Option ℕ → Type 0
CanCall G mix told page_bytes = AreAble G mix.gmi mix.images.items told page_bytes
    (length mix.processes.items) (numbered mix.processes.items) none_spare

-- A manager without caches and actors whose room isn't limited, with pages of 4,096 bytes.
pub record IsBare {Manager Mapper Chooser : Type 0} (G : GhostsOfGmi Manager Mapper Chooser)
    (gmi : Manager) (told : Option Held) (page_bytes : Option ℕ) : Type 0 where
  pub valid : G.valid gmi told
  pub unlimited : G.room gmi ≡ None
  pub fits : Fits page_bytes (G.machine gmi told)
  pub page : (G.machine gmi told).page_bytes ≡ 4096
  pub caches : (G.machine gmi told).caches ≡ []
  pub actors : (G.machine gmi told).actors ≡ []
