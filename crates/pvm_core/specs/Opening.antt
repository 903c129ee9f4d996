-- What is asked and said where a segment is opened.
use Rattle.std.specs.Prelude.{◌≡◌, ℕ, ◌<◌, false, List, length, All, Option, Some, IfSome, IsSomeAnd}
use Rattle.std.specs.FinMap.{get}
use Rattle.vm_ids.specs.Held.{Held}
use Rattle.vm_ids.specs.declared.numbers.CacheId.{CacheId}
use Rattle.vm_ids.specs.declared.numbers.SegId.{SegId}
use Rattle.local_cache.specs.declared.own_state.OwnState.TheVariants.{OnSegment}
use Rattle.local_cache.specs.Arena.{Arena, HasPage, is_granted}
use Rattle.local_cache.specs.Whole.{segment_of, size_of}
use Rattle.pvm_core.specs.Manager.{Manager}

-- a live cache is of the segment
abbrev pub IsOpened : Arena → SegId → Type 0
IsOpened a seg = (cache : ℕ) × (segment_of a cache ≡ Some (Some seg))

-- the pages of a segment: so many, each of so many bytes
pub record ArePagesOf (page_bytes size : ℕ) (pages : List (List ℕ)) : Type 0 where
  pub count : length pages ≡ size
  pub whole : All (λ page. length page ≡ page_bytes) pages

-- the mapper has the segment, of so many pages of so many bytes each, where it tells what it holds
abbrev pub HasSegment : Option Held → SegId → ℕ → ℕ → Type 0
HasSegment told seg page_bytes count =
    IfSome told (λ h. IsSomeAnd (get h.segments seg.0) (ArePagesOf page_bytes count))

-- each page of a cache is where its segment has it, and in no frame
abbrev pub LieOnSegment : Manager → CacheId → Type 0
LieOnSegment p cache = (page count : ℕ) → size_of p.caches cache.0 ≡ Some count → page < count
    → HasPage p.caches cache page OnSegment

-- no page of a cache was granted to be written
abbrev pub HasNoGrants : Manager → CacheId → Type 0
HasNoGrants p cache = (page : ℕ) → is_granted p.caches cache.0 page ≡ false
