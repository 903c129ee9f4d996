-- What pages do that are locked and let go, one after the other.
use Rattle.std.specs.Prelude.{◌≡◌, ℕ, ◌+◌, ◌&&◌, ◌==◌, Bool, true, not, List, length, count_by, if◌then◌else◌, is_some, nat_le, nat_lt, Option, Some}
use Rattle.std.specs.List.{range_with_len}
use Rattle.vm_ids.specs.Counting.{MapperCounts}
use Rattle.vm_ids.specs.Held.{Held}
use Rattle.vm_ids.specs.declared.command.Extent.{Extent}
use Rattle.vm_ids.specs.declared.node_name.NodeName.{NodeName}
use Rattle.vm_ids.specs.declared.numbers.CacheId.{CacheId}
use Rattle.vm_ids.specs.declared.numbers.NodeId.{NodeId}
use Rattle.vm_ids.specs.Forest.Commands.{lock, page_names}
use Rattle.vm_ids.specs.Forest.Reading.{value_of}
use Rattle.frame_pool.specs.Pool.{is_pinned, pinned_count}
use Rattle.local_cache.specs.Arena.{Arena, find, is_locked, locked_count, locks_of, node_at}
use Rattle.local_cache.specs.Own.{is_resident, own_of}
use Rattle.local_cache.specs.Reading.{name_of}
use Rattle.local_cache.specs.Whole.{IsWhole, SameCaches}
use Rattle.residency.specs.declared.store.Store.{Store}
use Rattle.residency.specs.Causes.{Later}
use Rattle.residency.specs.StoreForest.{store_forest}
use Rattle.residency.specs.World.{IsStoreRight, World, world}
use Rattle.segment_ops.specs.Pushing.{TellsValues}
use Rattle.segment_ops.specs.Ranges.{IsPageOf}
use Rattle.pvm_core.specs.Locks.{has_locked}
use Rattle.pvm_core.specs.Translated.{KeepsTranslations}

-- The locked pages are in frames, and these are pinned, and no others: `resident`, `pinned` and
-- `pins` of `AreHeld`, of whatever locks there are.
pub record HoldsLocked (a : Arena) (s : Store) : Type 0 where
  pub resident : (cache page : ℕ) (node : NodeId) → node_at a cache page ≡ Some node
      → is_locked (locks_of a cache page) ≡ true → is_resident (own_of a node) ≡ true
  pub pinned : (frame : ℕ) → is_pinned s.frames frame ≡ has_locked a s.map frame
  pub pins : pinned_count s.frames ≡ locked_count a

-- this page of this cache is one of the extent
abbrev pub covers : Extent → ℕ → ℕ → Bool
covers e cache page =
    e.cache.0 == cache && nat_le e.first.0 page && nat_lt page (e.first.0 + e.pages)

-- one page
abbrev pub one_page : CacheId → ℕ → Extent
one_page cache page = record { cache = cache; first = record { 0 = page }; pages = 1 }

-- each page of the extent has a lock more, and other pages have as many
abbrev pub LocksMore : Extent → Arena → Arena → Type 0
LocksMore e old new = (cache page : ℕ) → locks_of new cache page
    ≡ locks_of old cache page + (if covers e cache page then 1 else 0)

-- each page has as many locks
abbrev pub SameLocks : Arena → Arena → Type 0
SameLocks old new = (cache page : ℕ) → locks_of new cache page ≡ locks_of old cache page

-- how many pages of an extent have no lock
abbrev pub unlocked_in : Arena → Extent → ℕ
unlocked_in a e = count_by (λ page. not (is_locked (locks_of a e.cache.0 page)))
    (range_with_len e.first.0 e.pages)

-- What stays while pages are locked and let go: the store is right, the caches and their nodes are
-- the same, each page reads as it did, and pushes to segments are of what pages read.
pub record ReadsAlike (old new : World) (before now : MapperCounts) : Type 0 where
  pub right : IsStoreRight new
  pub whole : IsWhole new.caches
  pub same : SameCaches old.caches new.caches
  pub held : (n : NodeId) → is_some (find new.caches n) ≡ is_some (find old.caches n)
  pub names : (n : NodeId) → name_of new.caches n ≡ name_of old.caches n
  pub values : (x : NodeName)
      → value_of (store_forest new) x ≡ value_of (store_forest old) x
  pub made : new.caches.made ≡ old.caches.made
  pub frames : length new.frames.held ≡ length old.frames.held
  pub page : new.frames.page ≡ old.frames.page
  pub page_bytes : new.page_bytes ≡ old.page_bytes
  pub slots : length new.slots ≡ length old.slots
  pub later : Later before now
  pub told : TellsValues old new before now

-- the store is right beside a mapper
abbrev pub HasRightStore : Arena → Store → Type 0
HasRightStore a s = (told : Option Held) × (size : Option ℕ) × IsStoreRight (world told size a s)

-- Locks and pins alone changed: whatever a mapper holds, each page reads as it did, and the page
-- forest stays. So do the nodes, their frames and the translations, which are right still.
pub record KeepsPages (a b : Arena) (s t : Store) : Type 0 where
  pub alike : (told : Option Held) (size : Option ℕ) (counts : MapperCounts)
      → IsStoreRight (world told size a s)
      → ReadsAlike (world told size a s) (world told size b t) counts counts
  pub forest : (told : Option Held) (size : Option ℕ)
      → store_forest (world told size b t) ≡ store_forest (world told size a s)
  pub cells : b.cells ≡ a.cells
  pub map : t.map ≡ s.map
  pub tables : t.tables ≡ s.tables
  pub translated : KeepsTranslations a b s t

-- each of these pages that had no own page got the one that it read
abbrev pub AreOwned : List NodeName → World → World → Type 0
AreOwned names old new = store_forest new ≡ lock names (store_forest old)

-- The mapper failed at this page of a range: the pages before it own their pages, and no page has
-- another lock.
pub record FailedToHold (range : Extent) (page : ℕ) (old new : World) : Type 0 where
  pub stop : IsPageOf range page
  pub locks : SameLocks old.caches new.caches
  pub before : ℕ
  pub passed : before + range.first.0 ≡ page
  pub owned : AreOwned (page_names range.cache range.first.0 before) old new
