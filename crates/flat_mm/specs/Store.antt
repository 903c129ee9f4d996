-- The pages of all caches, without the frames that they are in.
use Rattle.std.specs.Prelude.{◌≡◌, ◌==◌, ◌-◌, ℕ, drop, map, take, [], Bool, true, false, List, length, All, Option, None, Some, option_and_then, option_map, slice_get, slice_set, sum_by, replicate}
use Rattle.std.specs.Option.{option_map_or}
use Rattle.vm_ids.specs.declared.command.Span.{Span}
use Rattle.vm_ids.specs.declared.numbers.SegId.{SegId}
use Rattle.vm_model.specs.Answering.{overwrite}
use Rattle.vm_model.specs.Machine.{numbered, zero_page}

-- the bytes of a page, and whether they may differ from those that the segment has
pub record Page : Type 0 where
  pub bytes : List ℕ
  pub changed : Bool

-- the segment that names a cache, if one does, and its pages
pub record Cache : Type 0 where
  pub segment : Option SegId
  pub pages : List Page

-- The bytes of a page, how many frames there are and how many of them are free, the caches in the
-- order of making, of which a dead one is None, and the pages that are in frames and of no cache.
pub record Store : Type 0 where
  pub page_bytes : ℕ
  pub frames : ℕ
  pub free : ℕ
  pub caches : List (Option Cache)
  pub loose : List Page

abbrev pub size_of : Option Cache → ℕ
size_of None = 0
size_of (Some c) = length c.pages

-- the pages of all live caches
abbrev pub live_in : List (Option Cache) → ℕ
live_in caches = sum_by size_of caches

-- a page of a live cache
abbrev pub page_at : List (Option Cache) → ℕ → ℕ → Option Page
page_at caches cache page =
    option_and_then (λ (c : Cache). slice_get c.pages page) (numbered caches cache)

abbrev pub put_page : ℕ → Page → Cache → Cache
put_page page p c = record c { pages = slice_set c.pages page p }

abbrev pub put_pages : ℕ → List Page → Cache → Cache
put_pages first pages c = record c { pages = overwrite first pages c.pages }

-- a live cache of this segment
abbrev pub is_of : SegId → Option Cache → Bool
is_of seg None = false
is_of seg (Some c) = option_map_or (λ (s : SegId). s.0 == seg.0) c.segment false

-- the caches with one that was changed so
abbrev pub with_cache : ℕ → (Cache → Cache) → List (Option Cache) → List (Option Cache)
with_cache cache change caches =
    slice_set caches (cache - 1) (option_map change (numbered caches cache))

-- the store with another page in place of one
abbrev pub with_page : ℕ → ℕ → Page → Store → Store
with_page cache page p s = record s { caches = with_cache cache (put_page page p) s.caches }

abbrev pub with_loose : List Page → Store → Store
with_loose pages s = record s { loose = pages }

abbrev pub zeros : ℕ → Page
zeros page_bytes = record { bytes = zero_page page_bytes; changed = false }

abbrev pub temporary : ℕ → ℕ → Cache
temporary page_bytes pages = record { segment = None; pages = replicate pages (zeros page_bytes) }

-- the pages of a cache, or none where it isn't alive
abbrev pub pages_of : Option Cache → List Page
pages_of c = option_map_or (λ (c : Cache). c.pages) c []

abbrev pub touched : Page → Page
touched p = record p { changed = true }

-- the pages of the source of a copy or a move
abbrev pub source_of : Store → Span → ℕ → List Page
source_of s span pages =
    take pages (drop span.from_page.0 (pages_of (numbered s.caches span.from.0)))

-- the first so many pages of the destination are what those of the source are
abbrev pub copied : Store → Span → ℕ → Store
copied s span pages = record s {
  caches = with_cache span.to.0 (put_pages span.to_page.0 (map touched (source_of s span pages)))
      s.caches;
}

-- the first so many pages of the source are zeros
abbrev pub cleared : Store → Span → ℕ → Store
cleared s span pages = record s {
  caches = with_cache span.from.0
      (put_pages span.from_page.0 (replicate pages (touched (zeros s.page_bytes)))) s.caches;
}

-- each page has all its bytes
abbrev pub IsWhole : ℕ → Page → Type 0
IsWhole page_bytes p = length p.bytes ≡ page_bytes

abbrev pub HasWholePages : ℕ → Option Cache → Type 0
HasWholePages page_bytes None = Unit {0}
HasWholePages page_bytes (Some c) = All (IsWhole page_bytes) c.pages

pub record AreWhole (s : Store) : Type 0 where
  pub caches : All (HasWholePages s.page_bytes) s.caches
  pub loose : All (IsWhole s.page_bytes) s.loose
