-- Ranges of pages of caches.
use Rattle.std.specs.Prelude.{◌≡◌, ℕ, ◌+◌, ◌≤◌, ◌<◌, Some}
use Rattle.vm_ids.specs.declared.command.Extent.{Extent}
use Rattle.vm_ids.specs.declared.numbers.SegId.{SegId}
use Rattle.local_cache.specs.Arena.{Arena}
use Rattle.local_cache.specs.Whole.{segment_of, size_of}

-- the range lies in a live cache
pub record HasRange (a : Arena) (range : Extent) : Type 0 where
  pub pages : ℕ
  pub size : size_of a range.cache.0 ≡ Some pages
  pub within : range.first.0 + range.pages ≤ pages

-- the cache of the range is named by this segment
abbrev pub IsNamedBy : Arena → Extent → SegId → Type 0
IsNamedBy a range segment = segment_of a range.cache.0 ≡ Some (Some segment)

-- the cache of the range is named by a segment
abbrev pub IsNamed : Arena → Extent → Type 0
IsNamed a range = (segment : SegId) × IsNamedBy a range segment

-- this is a page of the range
abbrev pub IsPageOf : Extent → ℕ → Type 0
IsPageOf range page = (range.first.0 ≤ page) × (page < range.first.0 + range.pages)
