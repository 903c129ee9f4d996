-- The arena that page nodes and the rows of caches stand for.
use Rattle.std.specs.Prelude.{ℕ, zero, suc, ◌+◌, List, [], ◌∷◌, Bool, Option, option_map}
use Rattle.std.specs.FinMap as ids
use Rattle.vm_ids.specs.declared.numbers.SegId.{SegId}
use Rattle.local_cache.specs.declared.page_entry.PageEntry.{PageEntry}
use Rattle.local_cache.specs.Arena.{Arena, Table}
use Rattle.local_cache.specs.NodeKeys.{page_number}
use Rattle.local_cache.specs.PageNodes.{PageNodes}
use Rattle.local_cache.specs.Pages.{Pages}

-- what is kept of a live cache beside its nodes: the segment that names it, or none, how many pages
-- it has, and for each of them whether the mapper granted that it is written, and how many locked
-- regions hold it
pub record CacheRow : Type 0 where
  pub segment : Option SegId
  pub pages : ℕ
  pub grants : List Bool
  pub locks : List ℕ

-- each cache that was made, in order, or none where it isn't live, how many pages were copied, and
-- how many more caches and entries of tables fit before memory is taken
pub record CacheRows : Type 0 where
  pub rows : List (Option CacheRow)
  pub copies : ℕ
  pub places : ℕ
  pub entries : ℕ

-- the entry of the page that has this number among those of all caches
abbrev pub entry_under : Pages → ℕ → PageEntry
entry_under pages k = record { node = ids.get pages k }

-- the entries of so many pages of a cache, from one page on
abbrev pub entries_by : Pages → ℕ → ℕ → ℕ → List PageEntry
entries_by pages cache from zero = []
entries_by pages cache from (suc k) =
    entry_under pages (page_number cache from) ∷ entries_by pages cache (from + 1) k

-- the table of a cache
abbrev pub table_by : Pages → ℕ → CacheRow → Table
table_by pages cache r = record {
  segment = r.segment;
  pages = entries_by pages cache 0 r.pages;
  grants = r.grants;
  locks = r.locks;
}

-- the tables of caches, from one number on
abbrev pub tables_by : Pages → ℕ → List (Option CacheRow) → List (Option Table)
tables_by pages from [] = []
tables_by pages from (r ∷ rs) =
    option_map (table_by pages from) r ∷ tables_by pages (from + 1) rs

-- the arena: its cells are those of the page nodes, and a page of a live cache has the node that is
-- found under its number
abbrev pub arena_by : PageNodes → CacheRows → Arena
arena_by m c = record {
  cells = m.cells;
  caches = tables_by m.pages 1 c.rows;
  made = m.made;
  copies = c.copies;
  room = record { nodes = m.room; caches = c.places; entries = c.entries };
}
