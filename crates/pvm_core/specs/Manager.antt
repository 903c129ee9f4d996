-- What a manager keeps, the page forest and the machine that it stands for, and what holds of it
-- between two calls.
use Rattle.std.specs.Prelude.{◌≡◌, ℕ, zero, suc, ◌+◌, ◌*◌, ◌≤◌, List, [], ◌∷◌, length, sum_by, All, Option, Some, None, option_map, IfSome}
use Rattle.std.specs.FinMap.{get}
use Rattle.vm_ids.specs.Held.{Held, segments_of}
use Rattle.vm_ids.specs.declared.numbers.SegId.{SegId}
use Rattle.vm_ids.specs.Forest.Commands.{page_name}
use Rattle.vm_ids.specs.Forest.Nodes.{Forest}
use Rattle.vm_ids.specs.Forest.Reading.{value_of}
use Rattle.vm_ids.specs.Forest.Shape.{IsBounded}
use Rattle.local_cache.specs.declared.own_state.OwnState.{OwnState}
use Rattle.local_cache.specs.Arena.{Arena, Table, page_count}
use Rattle.local_cache.specs.Reading as arena
use Rattle.residency.specs.declared.store.Store.{Store}
use Rattle.residency.specs.StoreForest.{store_forest}
use Rattle.residency.specs.World.{IsStoreRight, World, world}
use Rattle.fault_path.specs.Faults.{HasLoose}
use Rattle.local_cache.specs.Whole.{IsWhole, segment_of, size_of}
use Rattle.vm_model.specs.Machine.{Actor, Cache, Machine, Page}
use Rattle.vm_model.specs.Outcome.{HasWholePages}
use Rattle.vm_model.specs.PageForest.{PageForest}
use Rattle.vm_model.specs.Run.{State}
use Rattle.vm_model.specs.declared.limits.TheConstants.{LIVE_PAGES}
use Rattle.gmi_calls.specs.Calling.{Meanings}
use Rattle.contexts.specs.Actors.{Actors}
use Rattle.contexts.specs.Placed.{AreRight}
use Rattle.pvm_core.specs.Locks.{AreHeld}
use Rattle.pvm_core.specs.Translated.{AreTranslationsRight}

-- the caches with their page nodes, the store of frames and slots, the size of a page, and the
-- actors with their regions
pub record Manager : Type 0 where
  pub caches : Arena
  pub store : Store
  pub page_bytes : ℕ
  pub actors : List (Option Actor)
  pub regions_made : ℕ

-- its page nodes as a forest, where each own page is no more than the state that tells where it is
abbrev pub nodes_of : Manager → Forest OwnState
nodes_of p = arena.forest_of p.caches

-- a manager over a mapper that takes pages of any size
abbrev pub world_of : Manager → Option Held → World
world_of p told = world told None p.caches p.store

-- the page forest that a manager keeps
abbrev pub forest_of : Manager → Option Held → PageForest
forest_of p told = store_forest (world_of p told)

-- the bytes of a page, or none where they aren't told
abbrev pub shown : Option (Option Page) → Page
shown None = []
shown (Some None) = []
shown (Some (Some bytes)) = bytes

-- so many pages of a cache from one page on, each the value of its node
abbrev pub pages_shown : PageForest → ℕ → ℕ → ℕ → List Page
pages_shown f cache page zero = []
pages_shown f cache page (suc n) =
    shown (value_of f (page_name (record { 0 = cache }) page)) ∷ pages_shown f cache (page + 1) n

-- a cache by its table
abbrev pub cache_shown : PageForest → ℕ → Table → Cache
cache_shown f cache t = record {
  segment = option_map (λ s. s.0) t.segment;
  pages = pages_shown f cache 0 (length t.pages);
}

-- the caches of these tables, the first of which has this number
abbrev pub caches_shown : PageForest → ℕ → List (Option Table) → List (Option Cache)
caches_shown f cache [] = []
caches_shown f cache (t ∷ ts) = option_map (cache_shown f cache) t ∷ caches_shown f (cache + 1) ts

-- a manager's regions and counts, over the pages of this forest
abbrev pub machine_by : Manager → PageForest → Machine
machine_by p f = record {
  page_bytes = p.page_bytes;
  frames = length p.store.frames.held;
  caches = caches_shown f 1 p.caches.caches;
  actors = p.actors;
  regions_made = p.regions_made;
}

-- the machine that a manager stands for: each page is the value of its node
abbrev pub machine_of : Manager → Option Held → Machine
machine_of p told = machine_by p (forest_of p told)

-- how many pages the live caches have
abbrev pub live_in : Arena → ℕ
live_in a = sum_by page_count a.caches

-- no two live caches are of one segment
abbrev pub AreApart : Arena → Type 0
AreApart a = (cache other : ℕ) (segment : SegId) → segment_of a cache ≡ Some (Some segment)
    → segment_of a other ≡ Some (Some segment) → cache ≡ other

-- a segment that names a live cache has as many pages as the cache, where that is told
abbrev pub AreSized : Arena → Option Held → Type 0
AreSized a told = (cache : ℕ) (segment : SegId) → segment_of a cache ≡ Some (Some segment)
    → IfSome told (λ h. option_map length (get h.segments segment.0) ≡ size_of a cache)

-- and each page of such a segment has all its bytes
abbrev pub AreFull : Arena → ℕ → Option Held → Type 0
AreFull a page_bytes told = (cache : ℕ) (segment : SegId) → segment_of a cache ≡ Some (Some segment)
    → IfSome told (λ h. IfSome (get h.segments segment.0) (All (λ page. length page ≡ page_bytes)))

-- What holds of a manager's fields, whatever the mapper holds:
--     nodes      the caches are sound, their forest is consistent, and each page of a live cache
--     has a node
--     apart      no two live caches are of one segment
--     bounded    the working nodes are fewer than the live ones, or there are none of either
--     slots      there are slots for the nodes of twice the live pages
--     counted    the live pages are counted, and are at most the limit
--     loose      three frames aren't pinned
--     locked     locks hold their pages in frames
--     actors     each region is of pages that a live cache has
--     page       the actors and the frames have one page size
pub record IsManagerSound (a : Arena) (s : Store) (t : Actors) (live : ℕ) : Type 0 where
  pub nodes : IsWhole a
  pub apart : AreApart a
  pub bounded : IsBounded (arena.forest_of a)
  pub slots : 2 * live ≤ length s.slots
  pub counted : live ≡ live_in a
  pub few : live ≤ LIVE_PAGES
  pub loose : HasLoose 3 s.frames
  pub locked : AreHeld a s t.actors
  pub actors : AreRight (size_of a) t
  pub page : t.page_bytes ≡ s.frames.page

-- the same, and each translation is right
pub record IsManagerRight (a : Arena) (s : Store) (t : Actors) (live : ℕ) : Type 0 where
  pub sound : IsManagerSound a s t live
  pub translated : AreTranslationsRight a s t

-- What each call needs and keeps beside, which speaks of what the mapper holds:
--     right    the store is right
--     sized    where the mapper tells what it holds, segments are as long as the caches that they
--     name
--     full     and each of their pages has all its bytes
--     whole    as each page of the machine does
pub record IsValid (p : Manager) (told : Option Held) : Type 0 where
  pub right : IsStoreRight (world_of p told)
  pub sized : AreSized p.caches told
  pub full : AreFull p.caches p.page_bytes told
  pub whole : IfSome told (λ _. HasWholePages (machine_of p told))

-- the working nodes made and the pages copied
abbrev pub numbered : Manager → ℕ
numbered p = p.caches.made + p.caches.copies

-- what a manager stands for between two answers
abbrev pub state_at : Manager → Option Held → State
state_at p told = record {
  machine = machine_of p told;
  forest = Some (forest_of p told);
  segments = segments_of told;
}

-- the same, as the interface asks for it
abbrev pub meaning : Meanings Manager
meaning = record {
  machine = machine_of;
  forest = λ p told. Some (forest_of p told);
  valid = IsValid;
  made = numbered;
  room = λ p. None;
}
