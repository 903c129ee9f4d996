-- What the manager keeps, the machine that it stands for, and what holds of it between two calls.
use Rattle.std.specs.Prelude.{◌≡◌, ◌≤◌, ℕ, true, false, List, [], length, map, Option, Some, None, option_map, slice_get, IfSome}
use Rattle.vm_ids.specs.Denying.{denies}
use Rattle.vm_ids.specs.Held.{Held, Segments, segment_page, segments_in}
use Rattle.vm_ids.specs.declared.numbers.SegId.{SegId}
use Rattle.vm_model.specs.declared.limits.TheConstants.{MOST_MADE}
use Rattle.vm_model.specs.Machine as model
use Rattle.vm_model.specs.Machine.{Machine, numbered}
use Rattle.vm_model.specs.Outcome.{seen_at}
use Rattle.contexts.specs.Actors.{Actors, machine_with}
use Rattle.contexts.specs.Placed.{AreRight}
use Rattle.gmi_calls.specs.Backing.{IsReady}
use Rattle.gmi_calls.specs.Calling.{Meanings, meanings}
use Rattle.flat_mm.specs.Store.{AreWhole, Cache, Page, Store}
use Rattle.flat_mm.specs.TwoManagers.{frames_left}

-- the pages in their frames, and the actors with their regions
pub record Manager : Type 0 where
  pub store : Store
  pub actors : Actors

-- a cache by its bytes alone
abbrev pub plain : Cache → model.Cache
plain c = record {
  segment = option_map (λ (s : SegId). s.0) c.segment;
  pages = map (λ (p : Page). p.bytes) c.pages;
}

abbrev pub caches_in : Store → List (Option model.Cache)
caches_in s = map (option_map plain) s.caches

-- the machine that a manager stands for: each page is the bytes of its frame
abbrev pub machine_in : Manager → Machine
machine_in p = machine_with (caches_in p.store) p.store.frames p.actors

-- for so many pages more there are frames
abbrev pub room_of : Manager → ℕ
room_of p = frames_left (machine_in p)

-- how many pages a cache has, where it is alive
abbrev pub sizes_in : Store → ℕ → Option ℕ
sizes_in s cache = option_map (λ (c : Cache). length c.pages) (numbered s.caches cache)

-- What holds of a manager's fields, whatever the mapper holds:
--     whole     each page has all its bytes
--     settled   no page is loose
--     page      the actors and the frames have one page size
--     made      no more caches were made than may be
--     counted   the actors that were made are counted
--     placed    each region is of pages that a live cache has
pub record IsManagerSound (s : Store) (t : Actors) (actors : ℕ) : Type 0 where
  pub whole : AreWhole s
  pub settled : s.loose ≡ []
  pub page : t.page_bytes ≡ s.page_bytes
  pub made : length s.caches ≤ MOST_MADE
  pub counted : actors ≡ length t.actors
  pub placed : AreRight (sizes_in s) t

-- A page of a segment: where it was changed the mapper let it be written, and else it is what the
-- segment has.
pub record IsKept (h : Segments) (seg page : ℕ) (p : Page) : Type 0 where
  pub granted : p.changed ≡ true → denies h.denied seg page ≡ false
  pub same : p.changed ≡ false → segment_page h seg page ≡ Some p.bytes

abbrev pub AreKept : Segments → List (Option Cache) → Type 0
AreKept h caches = (number page : ℕ) (c : Cache) (seg : SegId) (p : Page)
    → numbered caches number ≡ Some c → c.segment ≡ Some seg → slice_get c.pages page ≡ Some p
    → IsKept h seg.0 page p

-- What each call needs and keeps beside, which speaks of what the mapper holds: segments that are
-- told back the caches, and so do they each page of its own.
pub record IsValid (p : Manager) (told : Option Held) : Type 0 where
  pub ready : IsReady (machine_in p) told
  pub kept : IfSome told (λ h. AreKept (segments_in h) p.store.caches)

-- what a manager stands for, as the interface asks for it
abbrev pub flat : Meanings Manager
flat =
    meanings (λ p told. seen_at told (machine_in p)) (λ p told. None) IsValid (λ p. 0)
    (λ p. Some (room_of p))
