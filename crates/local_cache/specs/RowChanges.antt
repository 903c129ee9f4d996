-- The row of a cache, and what calls do to it.
use Rattle.std.specs.Prelude.{ℕ, zero, suc, ◌+◌, ◌-◌, List, [], ◌∷◌, ◌++◌, replicate, count_by, Bool, true, false, Option, Some, None, option_and_then, option_map, slice_get, slice_index_or, slice_set, unwrap_or}
use Rattle.vm_ids.specs.declared.numbers.SegId.{SegId}
use Rattle.local_cache.specs.declared.cache_list.CacheEntry.{CacheEntry}
use Rattle.local_cache.specs.Arena.{is_locked}
use Rattle.local_cache.specs.ArenaBy.{CacheRow, CacheRows}

-- the row of a cache, counted from 1, or none where it isn't live
abbrev pub row_at : List (Option CacheRow) → ℕ → Option CacheRow
row_at rows zero = None
row_at rows (suc k) = slice_index_or rows k None

-- a live cache without grants and locks
abbrev pub new_row : Option SegId → ℕ → CacheRow
new_row segment pages = record {
  segment = segment;
  pages = pages;
  grants = replicate pages false;
  locks = replicate pages 0;
}

-- a cache more, behind the others
abbrev pub with_row : CacheRows → Option SegId → ℕ → CacheRows
with_row c segment pages = record c {
  rows = c.rows ++ Some (new_row segment pages) ∷ [];
  places = c.places - 1;
  entries = c.entries - pages;
}

-- the rows with that of one cache changed, where it is live
abbrev pub rows_changed : List (Option CacheRow) → ℕ → (CacheRow → CacheRow)
    → List (Option CacheRow)
rows_changed rows zero change = rows
rows_changed rows (suc k) change =
    slice_set rows k (option_map change (slice_index_or rows k None))

-- the row with a page granted, where it has this page
abbrev pub row_granting : ℕ → CacheRow → CacheRow
row_granting page r = record r { grants = slice_set r.grants page true }

-- the same with so many locks on a page
abbrev pub row_locking : ℕ → ℕ → CacheRow → CacheRow
row_locking page count r = record r { locks = slice_set r.locks page count }

-- one row changed
abbrev pub with_changed : CacheRows → ℕ → (CacheRow → CacheRow) → CacheRows
with_changed c cache change = record c { rows = rows_changed c.rows cache change }

-- the rows without that of a cache
abbrev pub rows_without : List (Option CacheRow) → ℕ → List (Option CacheRow)
rows_without rows zero = rows
rows_without rows (suc k) = slice_set rows k None

-- how many pages a cache has, none where it isn't live
abbrev pub row_pages : Option CacheRow → ℕ
row_pages None = 0
row_pages (Some r) = r.pages

-- how many pages of a cache are locked, none where it isn't live
abbrev pub row_locked : Option CacheRow → ℕ
row_locked None = 0
row_locked (Some r) = count_by is_locked r.locks

-- without the row of a cache, the places of whose pages are given back
abbrev pub without_row : CacheRows → ℕ → CacheRows
without_row c cache = record c {
  rows = rows_without c.rows cache;
  entries = c.entries + row_pages (row_at c.rows cache);
}

-- the entry of a cache, which says nothing of single pages
abbrev pub entry_of_row : CacheRow → CacheEntry
entry_of_row r = record { segment = r.segment; pages = r.pages }

-- whether a page is granted; false where there is no live cache with this page
abbrev pub is_granting : List (Option CacheRow) → ℕ → ℕ → Bool
is_granting rows cache page =
    unwrap_or (option_and_then (λ r. slice_get r.grants page) (row_at rows cache)) false

-- how many locks a page has; 0 where there is no live cache with this page
abbrev pub row_locks : List (Option CacheRow) → ℕ → ℕ → ℕ
row_locks rows cache page =
    unwrap_or (option_and_then (λ r. slice_get r.locks page) (row_at rows cache)) 0
