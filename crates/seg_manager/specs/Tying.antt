-- How what is noted of segments is tied to the machine that the manager stands for.
use Rattle.std.specs.Prelude.{◌≡◌, ◌≤◌, ℕ, ◌+◌, List, [], ◌∷◌, ◌++◌, length, map, Option, Some, None, IfNone, IfSome}
use Rattle.std.specs.List.{AllByRecursion}
use Rattle.std.specs.Option.{option_map_or}
use Rattle.vm_ids.specs.Held.{Held, Segments, segments_of}
use Rattle.vm_model.specs.Machine.{Actor, Cache, Machine, Region, live_pages, segment_of}
use Rattle.vm_model.specs.Outcome.{blank}
use Rattle.vm_model.specs.declared.limits.TheConstants.{LIVE_PAGES, MOST_MADE}
use Rattle.gmi_calls.specs.Backing.{AreBacked}
use Rattle.gmi_calls.specs.Calling.{Fits}
use Rattle.gmi_calls.specs.declared.gmi.Gmi.{Ghosts as GhostsOfGmi}
pub use Rattle.seg_manager.specs.ReferenceMachine.{is_unreferenced}
pub use Rattle.seg_manager.specs.Keeps.{AreOnce}
use Rattle.seg_manager.specs.Seen.{is_kept, whole_of}
use Rattle.seg_manager.specs.declared.manager.SegManager.{SegManager}
use Rattle.seg_manager.specs.declared.tables.Kept.{Kept}
use Rattle.seg_manager.specs.declared.tables.Mapped.{Mapped}
use Rattle.seg_manager.specs.declared.tables.Named.{Named}

-- The segment of a cache and the cache's number.
pub record Naming : Type 0 where
  pub seg : ℕ
  pub cache : ℕ

abbrev pub naming_of : Named → Naming
naming_of c = record { seg = c.seg.0; cache = c.cache.0 }

abbrev pub naming_at : ℕ → Option Cache → List Naming
naming_at number None = []
naming_at number (Some c) =
    option_map_or (λ seg. record { seg = seg; cache = number } ∷ []) c.segment []

-- the caches that segments name, in order; the first of these caches has this number
abbrev pub namings : ℕ → List (Option Cache) → List Naming
namings number [] = []
namings number (c ∷ cs) = naming_at number c ++ namings (number + 1) cs

-- A region of an actor, as it is noted.
pub record Noted : Type 0 where
  pub actor : ℕ
  pub region : ℕ
  pub address : ℕ
  pub cache : ℕ

abbrev pub noted_of : Mapped → Noted
noted_of x =
    record { actor = x.actor.0; region = x.region.0; address = x.address; cache = x.cache.0 }

abbrev pub noted_region : ℕ → Region → Noted
noted_region actor r =
    record { actor = actor; region = r.number; address = r.start; cache = r.cache }

abbrev pub noted_at : ℕ → Option Actor → List Noted
noted_at actor None = []
noted_at actor (Some regions) = map (noted_region actor) regions

-- the regions of these actors, the first of which has this number
abbrev pub noted_regions : ℕ → List (Option Actor) → List Noted
noted_regions actor [] = []
noted_regions actor (a ∷ actors) = noted_at actor a ++ noted_regions (actor + 1) actors

-- Each cache that a segment names is noted, and each region. No two caches are of one segment.
-- Those to which nothing refers are kept, each once, and there is room to keep all. Where the
-- mapper tells what it holds, the segments back their caches.
pub record AreTied (m : Machine) (told : Option Segments) (cs : List Named) (ks : List Kept)
    (room : ℕ) (rs : List Mapped) : Type 0 where
  pub caches : map naming_of cs ≡ namings 1 m.caches
  pub regions : map noted_of rs ≡ noted_regions 1 m.actors
  pub apart : (i j seg : ℕ) → segment_of m i ≡ Some seg → segment_of m j ≡ Some seg → i ≡ j
  pub kept : (n : ℕ) → is_kept ks n ≡ is_unreferenced (whole_of m told cs) n
  pub named : AllByRecursion (λ (k : Kept). segment_of m k.cache.0 ≡ Some k.seg.0) ks
  pub once : AreOnce ks
  pub fits : length cs ≤ room
  pub backed : IfSome told (λ h. AreBacked m.caches h)

-- where nothing is told, the machine has no bytes
abbrev pub IsUntoldBlank : Option Held → Machine → Type 0
IsUntoldBlank told m = IfNone told (m ≡ blank m)

-- What it takes to call the manager of segments, given what the mapper holds and how many bytes its
-- pages have, where that is told. `G` is the ghost members of the manager below.
pub record CanCall {Manager Mapper Chooser : Type 0} (G : GhostsOfGmi Manager Mapper Chooser)
    (manager : SegManager Manager) (told : Option Held) (page_bytes : Option ℕ) : Type 0 where
  pub valid : G.valid manager.gmi told
  pub unlimited : G.room manager.gmi ≡ None
  pub fits : Fits page_bytes (G.machine manager.gmi told)
  pub live : live_pages (G.machine manager.gmi told) ≤ LIVE_PAGES
  pub few : length (G.machine manager.gmi told).caches ≤ MOST_MADE
  pub tied : AreTied (G.machine manager.gmi told) (segments_of told) manager.caches.items
      manager.kept.items manager.kept.room manager.regions.items
  pub blank : IsUntoldBlank told (G.machine manager.gmi told)

-- A manager without caches and regions whose room isn't limited.
pub record IsBare {Manager Mapper Chooser : Type 0} (G : GhostsOfGmi Manager Mapper Chooser)
    (gmi : Manager) (told : Option Held) (page_bytes : Option ℕ) : Type 0 where
  pub valid : G.valid gmi told
  pub unlimited : G.room gmi ≡ None
  pub fits : Fits page_bytes (G.machine gmi told)
  pub caches : (G.machine gmi told).caches ≡ []
  pub regions : noted_regions 1 (G.machine gmi told).actors ≡ []
