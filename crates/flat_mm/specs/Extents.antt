-- Pages of a cache that a segment names, which go to it and come from it.
use Rattle.std.specs.Prelude.{◌≡◌, ◌+◌, ◌≤◌, ◌^◌, ℕ, false, List, length, Option, Some, Result, slice_get, IfSome}
use Rattle.vm_ids.specs.Held.{Held, page_of}
use Rattle.vm_ids.specs.declared.command.Extent.{Extent}
use Rattle.vm_ids.specs.declared.numbers.SegId.{SegId}
use Rattle.vm_ids.specs.declared.refusal.Refusal.{Refusal}
use Rattle.vm_model.specs.Answering.{flush_of, invalidate_of, refuse, sync_of}
use Rattle.vm_model.specs.Machine as model
use Rattle.vm_model.specs.Machine.{Machine, numbered}
use Rattle.vm_port.specs.declared.traits.mapper.Mapper.{Ghosts as GhostsOfMapper}
use Rattle.gmi_calls.specs.Reaching.{Pushed}
use Rattle.flat_mm.specs.Manager.{IsValid, Manager, machine_in}
use Rattle.flat_mm.specs.Store.{Cache, Page, Store}

-- The pages are those of a live cache that this segment names.
pub record IsExtent (s : Store) (extent : Extent) (seg : SegId) : Type 0 where
  pub cache : Cache
  pub alive : numbered s.caches extent.cache.0 ≡ Some cache
  pub named : cache.segment ≡ Some seg
  pub within : extent.first.0 + extent.pages ≤ length cache.pages
  pub few : length cache.pages ≤ 2 ^ 16

-- A flush of these pages is refused so, and an invalidation.
pub record RefusesFlush (m : Machine) (extent : Extent) (r : Refusal) : Type 0 where
  pub flush : flush_of m extent ≡ refuse m r
  pub invalidate : (held : Option (List model.Page)) → invalidate_of m extent held ≡ refuse m r

-- So is a sync.
pub record RefusesSync (m : Machine) (extent : Extent) (r : Refusal) : Type 0 where
  pub sync : sync_of m extent ≡ refuse m r
  pub others : RefusesFlush m extent r

-- Pages were pushed: the manager stands for the machine that it stood for, and has as many free
-- frames.
pub record IsPushed {X T E : Type 0} (M : GhostsOfMapper X) (before : X) (old : Manager) (after : X)
    (new : Manager) (result : Result T E) : Type 0 where
  pub pushed : Pushed (machine_in old) (M.held before) (M.held after) (M.counts before)
      (M.counts after) result
  pub machine : machine_in new ≡ machine_in old
  pub free : new.store.free ≡ old.store.free
  pub valid : IsValid new (M.held after)
  pub page : M.page_bytes after ≡ M.page_bytes before

-- A page that was pulled: it is what the segment has, and wasn't changed.
pub record IsPulled (told : Option Held) (seg page : ℕ) (p : Page) : Type 0 where
  pub unchanged : p.changed ≡ false
  pub same : IfSome told (λ h. page_of h seg page ≡ Some p.bytes)

-- these pages are those of the segment, from this one on
abbrev pub ArePulled : Option Held → ℕ → ℕ → List Page → Type 0
ArePulled told seg first pages =
    (i : ℕ) (p : Page) → slice_get pages i ≡ Some p → IsPulled told seg (first + i) p
