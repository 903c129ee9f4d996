-- What translations may say: in which page frame an actor sees a page, and whether it may write
-- there.
use Rattle.std.specs.Int.{div_ceil}
use Rattle.std.specs.Prelude.{◌≡◌, ℕ, ◌+◌, ◌*◌, ◌/◌, ◌%◌, nat_lt, Bool, true, false, List, length, Option, Some, None, Result, Ok, if◌then◌else◌}
use Rattle.vm_ids.specs.declared.node_name.NodeName.{NodeName}
use Rattle.vm_ids.specs.declared.numbers.ActorId.{ActorId}
use Rattle.vm_ids.specs.declared.numbers.FrameId.{FrameId}
use Rattle.vm_ids.specs.declared.refusal.Refusal.{Refusal}
use Rattle.vm_ids.specs.declared.reply.RegionStatus.{RegionStatus}
use Rattle.vm_ids.specs.Forest.Commands.{page_name}
use Rattle.local_cache.specs.Arena.{Arena}
use Rattle.page_tables.specs.Entries.{is_in_range}
use Rattle.page_tables.specs.Translations.{IsEntered, entry_at, translation}
use Rattle.page_tables.specs.declared.entry.Entry.{Entry}
use Rattle.page_tables.specs.declared.entry.Translation.{Translation}
use Rattle.residency.specs.Seeing.{IsAlone, seen_in}
use Rattle.residency.specs.declared.store.Store.{Store}
use Rattle.page_commands.specs.Homes.{IsWritable}
use Rattle.vm_model.specs.Machine.{numbered}
use Rattle.vm_model.specs.Place.{Place, place_of_actor}
use Rattle.contexts.specs.Actors.{Actors}

-- the place of a page of an actor: the region that covers it, and the page of the region's cache
abbrev pub place_of_page : Actors → ℕ → ℕ → Result Place Refusal
place_of_page t actor page =
    place_of_actor t.page_bytes (numbered t.actors actor) (page * t.page_bytes) 1

-- the name of the page at a place
abbrev pub name_at : Place → NodeName
name_at at = page_name (record { 0 = at.region.cache }) at.page

-- The page at a place may be written as it is: the region is for writing, the page's node has it to
-- itself, and where it is a page of a segment that was granted.
pub record MayBeWritten (a : Arena) (at : Place) : Type 0 where
  pub allowed : at.region.may_write ≡ true
  pub alone : IsAlone a (name_at at)
  pub granted : IsWritable a (name_at at)

-- A translation is right: it is for a page of a region of a living actor, leads to the frame in
-- which the page is seen, and is for writing only where the page may be written as it is.
pub record IsTranslationRight (a : Arena) (s : Store) (t : Actors) (e : Entry) : Type 0 where
  pub at : Place
  pub place : place_of_page t e.actor.0 e.page ≡ Ok at
  pub seen : seen_in a s.map (name_at at) ≡ Some e.to.frame.0
  pub written : e.to.writable ≡ true → MayBeWritten a at

-- each translation of a manager is right
abbrev pub AreTranslationsRight : Arena → Store → Actors → Type 0
AreTranslationsRight a s t =
    (place : ℕ) (e : Entry) → entry_at s.tables place ≡ Some e → IsTranslationRight a s t e

-- translations that were right are right still, whatever actors there are
abbrev pub KeepsTranslations : Arena → Arena → Store → Store → Type 0
KeepsTranslations a b s t =
    (u : Actors) → AreTranslationsRight a s u → AreTranslationsRight b t u

-- what is entered for an access of so many bytes of an actor that ends within its page
abbrev pub found_for : ℕ → List (Option Entry) → ℕ → ℕ → ℕ → Option Translation
found_for page_bytes tables actor address bytes =
    if nat_lt page_bytes (address % page_bytes + bytes) then None
    else translation tables actor (address / page_bytes)

-- the frame of a translation for writing
abbrev pub frame_to_write : Option Translation → Option FrameId
frame_to_write None = None
frame_to_write (Some seen) = if seen.writable then Some seen.frame else None

-- a store is the same but for its translations and marks, of which there is room for as many
pub record OnlySeen (s t : Store) : Type 0 where
  pub same : t ≡ record s { tables = t.tables; marks = t.marks }
  pub places : length t.tables ≡ length s.tables
  pub marks : length t.marks ≡ length s.marks

-- What an access of an actor leaves in the store: the entry of its page is there, and is found by
-- the next one.
pub record Leads (page_bytes : ℕ) (actor : ActorId) (address : ℕ) (to : Translation) (s t : Store)
    : Type 0 where
  pub only : OnlySeen s t
  pub entered : IsEntered s.tables t.tables
      (record { actor = actor; page = address / page_bytes; to = to })
  pub found : translation t.tables actor.0 (address / page_bytes) ≡ Some to

-- and what a load leaves, which found its page in a frame, or a page of zeros
abbrev pub LeadsFound : ℕ → ActorId → ℕ → Option FrameId → Store → Store → Type 0
LeadsFound page_bytes actor address None s t = t ≡ s
LeadsFound page_bytes actor address (Some f) s t =
    Leads page_bytes actor address (record { frame = f; writable = false }) s t

-- an entry for one of as many pages as a region has, from the first that begins in it on
abbrev pub is_in_region : ℕ → RegionStatus → Entry → Bool
is_in_region page_bytes r =
    is_in_range r.actor.0 (div_ceil r.mapping.address page_bytes) r.mapping.extent.pages
