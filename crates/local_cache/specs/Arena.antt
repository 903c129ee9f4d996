-- What a contract sees of the caches: page nodes by number, and of each cache the table of its
-- pages.
use Rattle.std.specs.Prelude.{◌≡◌, ℕ, zero, suc, ◌+◌, ◌-◌, ◌≤◌, ◌<◌, List, [], ◌∷◌, ◌++◌, length, map, replicate, count_by, sum_by, Bool, true, false, Option, Some, None, unwrap_or, IsSome, option_and_then, option_map, slice_get, slice_index_or, slice_set}
use Rattle.std.specs.Ordering.{nat_cmp}
use Rattle.std.specs.FinMap.{FinMap}
use Rattle.std.specs.FinMap as ids
use Rattle.vm_ids.specs.declared.node_name.NodeName.{NodeName}
use Rattle.vm_ids.specs.declared.node_name.NodeName.TheVariants.{Live, Working}
use Rattle.vm_ids.specs.declared.numbers.CacheId.{CacheId}
use Rattle.vm_ids.specs.declared.numbers.NodeId.{NodeId}
use Rattle.vm_ids.specs.declared.numbers.PageNo.{PageNo}
use Rattle.vm_ids.specs.declared.numbers.SegId.{SegId}
use Rattle.local_cache.specs.declared.links.Links.{Links}
use Rattle.local_cache.specs.declared.own_state.OwnState.{OwnState}
use Rattle.local_cache.specs.declared.own_state.OwnState.TheVariants.{Absent}
use Rattle.local_cache.specs.declared.page_entry.PageEntry.{PageEntry}

-- a page node, with its tree children in their order
pub record Cell : Type 0 where
  pub name : NodeName
  pub own : OwnState
  pub links : Links
  pub tree : List NodeId

-- a live cache: the segment that names it, or none, and for each of its pages an entry, whether the
-- mapper granted that it is written, and how many locked regions hold it
pub record Table : Type 0 where
  pub segment : Option SegId
  pub pages : List PageEntry
  pub grants : List Bool
  pub locks : List ℕ

-- how many more nodes, caches and entries of tables fit before memory is taken
pub record Room : Type 0 where
  pub nodes : ℕ
  pub caches : ℕ
  pub entries : ℕ

-- the nodes by number; each cache that was made, in order, or none where it isn't live; how many
-- working nodes were made and how many pages were copied; the spare room
pub record Arena : Type 0 where
  pub cells : FinMap nat_cmp Cell
  pub caches : List (Option Table)
  pub made : ℕ
  pub copies : ℕ
  pub room : Room

-- neither parent nor stubs
abbrev pub no_links : Links
no_links =
    record {
      parent = None;
      by_stub = false;
      first = None;
      last = None;
      stubs = 0;
      before = None;
      behind = None;
    }

-- a node without parent and children
abbrev pub new_cell : NodeName → OwnState → Cell
new_cell name own = record { name = name; own = own; links = no_links; tree = [] }

-- what is read where there is no node
abbrev pub blank : Cell
blank = new_cell (Working 0) Absent

abbrev pub find : Arena → NodeId → Option Cell
find a n = ids.get a.cells n.0

abbrev pub HasNode : Arena → NodeId → Type 0
HasNode a n = IsSome (find a n)

-- the node, or a blank one
unfoldable pub cell : Arena → NodeId → Cell
cell a n = unwrap_or (find a n) blank

-- the arena with another cell at a number
unfoldable pub put : Arena → NodeId → Cell → Arena
put a n c = record a { cells = ids.insert a.cells n.0 c }

abbrev pub with_own : Arena → NodeId → OwnState → Arena
with_own a n s = put a n (record (cell a n) { own = s })

abbrev pub with_links : Arena → NodeId → Links → Arena
with_links a n l = put a n (record (cell a n) { links = l })

-- the node on this parent by a tree link, or on none
abbrev pub hung : Arena → NodeId → Option NodeId → Arena
hung a n parent = with_links a n (record (cell a n).links { parent = parent; by_stub = false })

abbrev pub with_tree : Arena → NodeId → List NodeId → Arena
with_tree a n ts = put a n (record (cell a n) { tree = ts })

-- the table with another node, or none, at a page that it has
abbrev pub table_with : ℕ → Option NodeId → Table → Table
table_with page o t = record t { pages = slice_set t.pages page (record { node = o }) }

-- the tables with that of one cache changed, where it is live
abbrev pub changed_at : List (Option Table) → ℕ → (Table → Table) → List (Option Table)
changed_at tables zero change = tables
changed_at tables (suc k) change =
    slice_set tables k (option_map change (slice_index_or tables k None))

-- the tables with another node, or none, at a page of a cache, where there is a live cache with
-- this page
abbrev pub cache_with : List (Option Table) → ℕ → ℕ → Option NodeId → List (Option Table)
cache_with tables cache page o = changed_at tables cache (table_with page o)

-- the tables with another node, or none, at the page of this name
abbrev pub tables_with : List (Option Table) → NodeName → Option NodeId → List (Option Table)
tables_with tables (Live cache page) o = cache_with tables cache.0 page.0 o
tables_with tables (Working k) o = tables

-- the node under another name, in the tables too
abbrev pub with_name : Arena → NodeId → NodeName → Arena
with_name a n x =
    record (put a n (record (cell a n) { name = x })) {
      caches = tables_with
          (tables_with a.caches (cell a n).name None) x (Some n);
    }

-- the node under the next working name
abbrev pub as_working : Arena → NodeId → Arena
as_working a n = record (with_name a n (Working (a.made + 1))) { made = a.made + 1 }

-- the arena with a new node at a number, in the tables too
unfoldable pub with_new : Arena → NodeId → NodeName → OwnState → Arena
with_new a n x s = record a {
  cells = ids.insert a.cells n.0 (new_cell x s);
  caches = tables_with a.caches x (Some n);
  room = record a.room { nodes = a.room.nodes - 1 };
}

-- the arena with a new node under the next working name
abbrev pub with_working : Arena → NodeId → Arena
with_working a n = record (with_new a n (Working (a.made + 1)) Absent) { made = a.made + 1 }

-- the arena without the node, whose place is given back
unfoldable pub without : Arena → NodeId → Arena
without a n = record a {
  cells = ids.remove a.cells n.0;
  caches = tables_with a.caches (cell a n).name None;
  room = record a.room { nodes = a.room.nodes + 1 };
}

-- the table of a cache, counted from 1, or none where it isn't live
abbrev pub table_at : List (Option Table) → ℕ → Option Table
table_at tables zero = None
table_at tables (suc k) = slice_index_or tables k None

-- the entry of a page of a live cache, or none where there is no such page
abbrev pub entry_at : List (Option Table) → ℕ → ℕ → Option PageEntry
entry_at tables cache page = option_and_then (λ t. slice_get t.pages page) (table_at tables cache)

abbrev pub table_of : Arena → ℕ → Option Table
table_of a cache = table_at a.caches cache

-- the node of a page of a cache
abbrev pub node_at : Arena → ℕ → ℕ → Option NodeId
node_at a cache page =
    option_and_then (λ t. option_and_then (λ e. e.node) (slice_get t.pages page)) (table_of a cache)

-- the table with a page granted, where it has this page
abbrev pub table_granting : ℕ → Table → Table
table_granting page t = record t { grants = slice_set t.grants page true }

-- the arena with a page granted, where there is a live cache with this page
abbrev pub with_grant : Arena → ℕ → ℕ → Arena
with_grant a cache page =
    record a { caches = changed_at a.caches cache (table_granting page) }

-- whether a page is granted; false where there is no live cache with this page
abbrev pub is_granted : Arena → ℕ → ℕ → Bool
is_granted a cache page =
    unwrap_or (option_and_then (λ t. slice_get t.grants page) (table_of a cache)) false

-- the table with so many locks on a page, where it has this page
abbrev pub table_locking : ℕ → ℕ → Table → Table
table_locking page count t = record t { locks = slice_set t.locks page count }

-- the arena with so many locks on a page, where there is a live cache with this page
abbrev pub with_locks : Arena → ℕ → ℕ → ℕ → Arena
with_locks a cache page count =
    record a { caches = changed_at a.caches cache (table_locking page count) }

-- how many locked regions hold a page; 0 where there is no live cache with this page
abbrev pub locks_of : Arena → ℕ → ℕ → ℕ
locks_of a cache page =
    unwrap_or (option_and_then (λ t. slice_get t.locks page) (table_of a cache)) 0

-- a page that so many locked regions hold is locked
abbrev pub is_locked : ℕ → Bool
is_locked zero = false
is_locked (suc k) = true

-- how many pages of a cache are locked, none where it isn't live
abbrev pub locked_pages : Option Table → ℕ
locked_pages None = 0
locked_pages (Some t) = count_by is_locked t.locks

-- how many pages of all live caches are locked
abbrev pub locked_count : Arena → ℕ
locked_count a = sum_by locked_pages a.caches

-- a live cache has this page
abbrev pub HasPlace : Arena → CacheId → PageNo → Type 0
HasPlace a cache page = IsSome (entry_at a.caches cache.0 page.0)

-- a live cache has this page, which has no node
abbrev pub IsVacant : Arena → CacheId → PageNo → Type 0
IsVacant a cache page = entry_at a.caches cache.0 page.0 ≡ Some (record { node = None })

-- how many pages a table has
abbrev pub page_count : Option Table → ℕ
page_count None = 0
page_count (Some t) = length t.pages

-- the tables without that of a cache
abbrev pub tables_without : List (Option Table) → ℕ → List (Option Table)
tables_without tables zero = tables
tables_without tables (suc k) = slice_set tables k None

-- the arena without a cache, the places of whose pages are given back
abbrev pub without_cache : Arena → CacheId → Arena
without_cache a cache = record a {
  caches = tables_without a.caches cache.0;
  room = record a.room { entries = a.room.entries + page_count (table_of a cache.0) };
}

abbrev pub entry_for : NodeId → PageEntry
entry_for n = record { node = Some n }

-- a table whose pages have these nodes, none of them granted or locked
abbrev pub new_table : Option SegId → List NodeId → Table
new_table segment nodes =
    record {
      segment = segment;
      pages = map entry_for nodes;
      grants = replicate (length nodes) false;
      locks = replicate (length nodes) 0;
    }

-- the cells with a new node for each page of a cache from one page on, all of one own state
abbrev pub IsFilled : FinMap nat_cmp Cell → CacheId → ℕ → OwnState → List NodeId
    → FinMap nat_cmp Cell → Type 0
IsFilled cells cache page own [] after = after ≡ cells
IsFilled cells cache page own (n ∷ ns) after =
    (ids.get cells n.0 ≡ None)
    × IsFilled (ids.insert cells n.0 (new_cell (Live cache (record { 0 = page })) own)) cache
    (page + 1) own ns after

-- a cache was made, whose pages have these nodes, each of one own state, none granted or locked
pub record IsMade (old new : Arena) (cache : CacheId) (segment : Option SegId) (own : OwnState)
    (nodes : List NodeId) : Type 0 where
  pub number : cache.0 ≡ length old.caches + 1
  pub cells : IsFilled old.cells cache 0 own nodes new.cells
  pub caches : new.caches ≡ old.caches ++ Some (new_table segment nodes) ∷ []
  pub made : new.made ≡ old.made
  pub copies : new.copies ≡ old.copies
  pub room : new.room
      ≡ record {
        nodes = old.room.nodes - length nodes;
        caches = old.room.caches - 1;
        entries = old.room.entries - length nodes;
      }

-- a page of a cache has a node, which has this name and own state
pub record HasPage (a : Arena) (cache : CacheId) (page : ℕ) (own : OwnState) : Type 0 where
  pub node : NodeId
  pub at : node_at a cache.0 page ≡ Some node
  pub is : find a node ≡ Some (new_cell (Live cache (record { 0 = page })) own)

-- each page of a cache has a node of this own state
abbrev pub HasPages : Arena → CacheId → ℕ → OwnState → Type 0
HasPages a cache pages own = (page : ℕ) → page < pages → HasPage a cache page own

-- a cache of so many pages was made
abbrev pub MakesCache : Arena → Arena → CacheId → Option SegId → ℕ → OwnState → Type 0
MakesCache old new cache segment pages own =
    (nodes : List NodeId) × (length nodes ≡ pages) × IsMade old new cache segment own nodes

-- the nodes that were there are there
abbrev pub NodesStay : Arena → Arena → Type 0
NodesStay old new = (n : NodeId) → HasNode old n → HasNode new n

-- and they are as they were
abbrev pub CellsStay : Arena → Arena → Type 0
CellsStay old new = (n : NodeId) → HasNode old n → find new n ≡ find old n

-- the caches that were made are as they were
abbrev pub TablesStay : Arena → Arena → Type 0
TablesStay old new =
    (other : ℕ) → other ≤ length old.caches → table_of new other ≡ table_of old other

-- there is at least as much room
abbrev pub HasNoLess : Room → Room → Type 0
HasNoLess old new =
    (old.nodes ≤ new.nodes) × (old.caches ≤ new.caches) × (old.entries ≤ new.entries)
