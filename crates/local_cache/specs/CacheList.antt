-- What the entries of caches stand for, with the grants and the locks of their pages, and what
-- holds of them.
use Rattle.std.specs.Prelude.{◌≡◌, ℕ, zero, suc, ◌+◌, ◌-◌, ◌<◌, ◌≤◌, ◌^◌, Bool, List, [], ◌∷◌, length, sum_by, Option, Some, None, IsSome, option_map, slice_index_or}
use Rattle.std.specs.FinMap as map
use Rattle.std.specs.Vec.{vec_len, vec_capacity}
use Rattle.std.proofs.Common.{Vec, Global}
use Rattle.stretches.specs.declared.says.Says.{Ghosts}
use Rattle.stretches.specs.Cells.{cells}
use Rattle.stretches.specs.Stretches.{Stretches}
use Rattle.local_cache.specs.declared.cache_list.CacheEntry.{CacheEntry}
use Rattle.local_cache.specs.declared.page_marks.Granted.{Granted}
use Rattle.local_cache.specs.declared.page_marks.LockCount.{LockCount}
use Rattle.local_cache.specs.ArenaBy.{CacheRow, CacheRows}
use Rattle.local_cache.specs.NodeKeys.{page_number}
use Rattle.local_cache.specs.PageMarks.{granted_at, granted_says, locks_at, locks_say}
use Rattle.local_cache.specs.RowChanges.{row_locked}
use Rattle.local_cache.specs.Singles.{IsCounted}

-- what is at so many numbers, from one on
abbrev pub values : {X : Type 0} → (ℕ → X) → ℕ → ℕ → List X
values f from zero = []
values f from (suc k) = f from ∷ values f (from + 1) k

-- the row of a cache, by what is at the numbers of its pages
abbrev pub row_by : (ℕ → Bool) → (ℕ → ℕ) → ℕ → CacheEntry → CacheRow
row_by granted locks cache e = record {
  segment = e.segment;
  pages = e.pages;
  grants = values granted (page_number cache 0) e.pages;
  locks = values locks (page_number cache 0) e.pages;
}

-- the rows of caches, from one number on
abbrev pub rows_by : (ℕ → Bool) → (ℕ → ℕ) → ℕ → List (Option CacheEntry) → List (Option CacheRow)
rows_by granted locks from [] = []
rows_by granted locks from (e ∷ es) =
    option_map (row_by granted locks from) e ∷ rows_by granted locks (from + 1) es

-- whether the page of a number is granted, and how many locks it has, as the lists say
abbrev pub granted_in : Stretches Granted → ℕ → Bool
granted_in grants = granted_at (cells granted_says grants.list)

abbrev pub locks_in : Stretches LockCount → ℕ → ℕ
locks_in locks = locks_at (cells locks_say locks.list)

-- the rows that the entries and the lists of grants and locks stand for
abbrev pub rows_of : List (Option CacheEntry) → Stretches Granted → Stretches LockCount
    → List (Option CacheRow)
rows_of es grants locks = rows_by (granted_in grants) (locks_in locks) 1 es

-- what all fields stand for
abbrev pub cache_rows_of : Vec (Option CacheEntry) Global → Stretches Granted → Stretches LockCount
    → ℕ → ℕ → ℕ → CacheRows
cache_rows_of entries grants locks pages capacity copies = record {
  rows = rows_of entries.items grants locks;
  copies = copies;
  places = vec_capacity entries - vec_len entries;
  entries = capacity - pages;
}

-- the entry of a cache, counted from 1, or none where it isn't live
abbrev pub entry_at : List (Option CacheEntry) → ℕ → Option CacheEntry
entry_at es zero = None
entry_at es (suc k) = slice_index_or es k None

-- how many pages a cache has, none where it isn't live
abbrev pub entry_pages : Option CacheEntry → ℕ
entry_pages None = 0
entry_pages (Some e) = e.pages

-- how many pages the live caches have
abbrev pub page_sum : List (Option CacheEntry) → ℕ
page_sum es = sum_by entry_pages es

-- the number is that of a page of a live cache, the first of which has the number `from`
pub record IsPageOf (from : ℕ) (es : List (Option CacheEntry)) (number : ℕ) : Type 0 where
  pub at : ℕ
  pub page : ℕ
  pub entry : CacheEntry
  pub is : slice_index_or es at None ≡ Some entry
  pub below : page < entry.pages
  pub same : number ≡ page_number (from + at) page

-- the list says something of pages of live caches alone, and has places for so many
pub record SaysOfPages {V : Type 0} (S : Ghosts V) (es : List (Option CacheEntry)) (l : Stretches V)
    (capacity : ℕ) : Type 0 where
  pub counted : IsCounted S l
  pub places : capacity ≤ l.places
  pub placed : (k : ℕ) → IsSome (map.get (cells S l.list) k) → IsPageOf 1 es k

-- The pages and the locked pages are counted, there are places for all pages, and the lists say
-- something of pages alone, that of locks no 0.
pub record AreListsRight (es : List (Option CacheEntry)) (grants : Stretches Granted)
    (locks : Stretches LockCount) (pages capacity locked : ℕ) : Type 0 where
  pub granted : SaysOfPages granted_says es grants capacity
  pub locking : SaysOfPages locks_say es locks capacity
  pub above : (k : ℕ) (c : LockCount) → map.get (cells locks_say locks.list) k ≡ Some c → 0 < c.0
  pub caches : length es < 2 ^ 32
  pub sum : pages ≡ page_sum es
  pub fits : pages ≤ capacity
  pub few : capacity < 2 ^ 32
  pub counted : locked ≡ sum_by row_locked (rows_of es grants locks)
