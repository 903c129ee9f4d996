-- What can be seen of a manager between two calls.
use Rattle.std.specs.Prelude.{◌≡◌, ◌⊎◌, ℕ, ◌+◌, ◌*◌, ◌<◌, Option}
use Rattle.vm_ids.specs.Held.{Held}
use Rattle.vm_ids.specs.Forest.Reading.{live_count}
use Rattle.std.proofs.Math.Nat.{le-add_left, le-add_right}
use Rattle.frame_pool.specs.Pool.{held_count}
use Rattle.local_cache.specs.ReadingBy.{forest_by}
use Rattle.residency.specs.StoreForest.{store_forest}
use Rattle.gmi_calls.specs.Calling.{AreWithin}
use Rattle.slot_pool.specs.Slots as swap
use Rattle.vm_model.specs.Laws.{IsFollowed}
use Rattle.contexts.specs.Actors.{Actors}
use Rattle.pvm_core.specs.Keeping.{HoldsEachOnce}
use Rattle.pvm_core.specs.Locks.{AreHeld}
use Rattle.pvm_core.specs.Manager.{Manager, forest_of, machine_of, nodes_of, numbered}
use Rattle.pvm_core.specs.Translated.{AreTranslationsRight}

-- a manager's actors and their regions
abbrev pub actors_of : Manager → Actors
actors_of p = record {
  page_bytes = p.page_bytes;
  actors = p.actors;
  regions_made = p.regions_made;
}

-- how many pages are in frames and in slots
abbrev pub pages_kept : Manager → ℕ
pages_kept p = held_count p.store.frames + swap.held_count p.store.slots

-- they are fewer than twice the live pages, or there are none
abbrev pub KeepsFewPages : Manager → Type 0
KeepsFewPages p = (pages_kept p < 2 * live_count (nodes_of p)) ⊎ (pages_kept p ≡ 0)

-- What holds of a manager between two calls, beside what a mapper holds:
--     forest       the page forest has its shape; its live nodes are the pages of the live caches,
--     and
--                  their values are the pages of the machine
--     once         each page in a frame or a slot is there once
--     translated   each translation is right
--     locked       a page with locks is in a frame, which is pinned, and has one for each locked
--     region
--                  that covers it
--     few          few pages are in frames and slots
pub record StandsRight (p : Manager) (told : Option Held) : Type 0 where
  pub forest : IsFollowed (machine_of p told) (forest_of p told)
  pub once : HoldsEachOnce p
  pub translated : AreTranslationsRight p.caches p.store (actors_of p)
  pub locked : AreHeld p.caches p.store p.actors
  pub few : KeepsFewPages p

-- The number of a manager is the sum of its forest's counters, so each is within it.
pub within : (p : Manager) (told : Option Held) → AreWithin (numbered p) (forest_of p told)
unfolding store_forest forest_by
within p told = record {
  working = le-add_right p.caches.made p.caches.copies;
  copies = le-add_left p.caches.copies p.caches.made;
}
