-- What becomes of translations while pages are replaced and frames fall free.
use Rattle.std.specs.Prelude.{◌≡◌, ◌≢◌, ℕ, ◌==◌, Bool, true, false, if◌then◌else◌, ◌&&◌, ◌⊎◌, List, [], map, Option, Some, None, is_none, is_some, option_and_then}
use Rattle.std.specs.List.{list_any}
use Rattle.vm_ids.specs.declared.node_name.NodeName.{NodeName}
use Rattle.vm_ids.specs.declared.numbers.NodeId.{NodeId}
use Rattle.vm_ids.specs.Forest.Nodes.{is_live, node}
use Rattle.global_map.specs.Pairs.{node_of}
use Rattle.local_cache.specs.Arena.{Arena}
use Rattle.page_tables.specs.Entries.{read_only}
use Rattle.page_tables.specs.Translations.{entry_at, narrowed_in}
use Rattle.page_tables.specs.declared.entry.Entry.{Entry}
use Rattle.residency.specs.Seeing.{IsAlone, frame_forest, seen_in}
use Rattle.residency.specs.Translating.{without}
use Rattle.residency.specs.declared.store.Store.{Store}

-- a frame is that one, where one is given
abbrev pub is_frame : Option ℕ → ℕ → Bool
is_frame None frame = false
is_frame (Some that) frame = frame == that

-- one of these pages is seen in this frame
abbrev pub is_seen : Arena → List (Option NodeId) → List NodeName → ℕ → Bool
is_seen a map names frame = list_any (λ x. is_frame (seen_in a map x) frame) names

-- these pages, where a region maps their cache: no translation is of any other
abbrev pub where_mapped : Bool → List NodeName → List NodeName
where_mapped mapped names = if mapped then names else []

-- the frame of the own page of the node of this name, where it has one in a frame
abbrev pub own_in : Arena → List (Option NodeId) → NodeName → Option ℕ
own_in a map x = option_and_then (λ frame. frame) (node (frame_forest a map) x).own

-- one of these nodes has its own page in this frame
abbrev pub is_owned : Arena → List (Option NodeId) → List NodeName → ℕ → Bool
is_owned a map names frame = list_any (λ x. is_frame (own_in a map x) frame) names

-- the tables where the translations that lead to these frames are for reading alone
abbrev pub with_narrowed : (frames : ℕ → Bool) → List (Option Entry) → List (Option Entry)
with_narrowed frames tables = map (narrowed_in frames) tables

-- a frame that had a node fell free
abbrev pub freed : (old new : List (Option NodeId)) → ℕ → Bool
freed old new frame = is_some (node_of old frame) && is_none (node_of new frame)

-- the translations of the frames that fell free are dropped, and every other one stays
abbrev pub DropsFreed : Store → Store → Type 0
DropsFreed s t = t.tables ≡ without (freed s.map t.map) s.tables

-- The pages of some names are replaced, and those of others get heirs.
--     tables    the translations of the frames that fell free are dropped, every other one stays
--     seen      each other page is seen in the frame in which it was seen, or in none still
--     alone     and it is its node's alone where it was, unless it got an heir
pub record Replaces (replaced shared : NodeName → Type 0) (a : Arena) (s : Store) (b : Arena)
    (t : Store) : Type 0 where
  pub tables : DropsFreed s t
  pub seen : (x : NodeName) → is_live x ≡ true → (replaced x → ⊥)
      → seen_in b t.map x ≡ seen_in a s.map x
  pub alone : (x : NodeName) → is_live x ≡ true → (replaced x → ⊥) → (shared x → ⊥)
      → IsAlone a x → IsAlone b x

-- a translation was at this place, which is left as it was or for reading alone
pub record WasEntered (s : Store) (place : ℕ) (e : Entry) : Type 0 where
  pub entry : Entry
  pub there : entry_at s.tables place ≡ Some entry
  pub is : (e ≡ entry) ⊎ (e ≡ read_only entry)

-- What is left of the translations when the pages of some names were replaced, of which those were
-- sought that translations may be of, and those of others got heirs.
--     was       each one that is left was there, or was for writing and is for reading alone now
--     unseen    it leads to no frame in which a page was seen that was sought
--     unshared  and where it is for writing, to none of a page that got an heir
--     seen      each other page is seen in the frame in which it was seen, or in none still
--     alone     and it is its node's alone where it was, unless it got an heir
pub record Leaves (replaced sought shared : NodeName → Type 0) (a : Arena) (s : Store) (b : Arena)
    (t : Store) : Type 0 where
  pub was : (place : ℕ) (e : Entry) → entry_at t.tables place ≡ Some e → WasEntered s place e
  pub unseen : (place : ℕ) (e : Entry) → entry_at t.tables place ≡ Some e
      → (x : NodeName) → sought x → seen_in a s.map x ≢ Some e.to.frame.0
  pub unshared : (place : ℕ) (e : Entry) → entry_at t.tables place ≡ Some e → e.to.writable ≡ true
      → (x : NodeName) → shared x → IsAlone a x → seen_in a s.map x ≢ Some e.to.frame.0
  pub seen : (x : NodeName) → is_live x ≡ true → (replaced x → ⊥)
      → seen_in b t.map x ≡ seen_in a s.map x
  pub alone : (x : NodeName) → is_live x ≡ true → (replaced x → ⊥) → (shared x → ⊥)
      → IsAlone a x → IsAlone b x
