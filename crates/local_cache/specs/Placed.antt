-- What holds of page nodes and the rows of caches together.
use Rattle.std.specs.Prelude.{◌≡◌, ℕ, ◌+◌, ◌<◌, ◌^◌, List, length, Option, Some, None, slice_index_or}
use Rattle.vm_ids.specs.declared.node_name.NodeName.{NodeName}
use Rattle.vm_ids.specs.declared.node_name.NodeName.TheVariants.{Live, Working}
use Rattle.vm_ids.specs.declared.numbers.NodeId.{NodeId}
use Rattle.local_cache.specs.Arena.{Cell}
use Rattle.local_cache.specs.NodeCells.{HasCell}
use Rattle.local_cache.specs.NodeKeys.{page_number}
use Rattle.local_cache.specs.PageNodes.{ArePaged, PageNodes, find}
use Rattle.local_cache.specs.ArenaBy.{CacheRow, CacheRows}
use Rattle.local_cache.specs.RowChanges.{row_at}

-- a live cache has this page
pub record HasRow (rows : List (Option CacheRow)) (cache page : ℕ) : Type 0 where
  pub row : CacheRow
  pub is : row_at rows cache ≡ Some row
  pub below : page < row.pages

-- something holds of the row of each live cache
abbrev pub EachRow : (CacheRow → Type 0) → List (Option CacheRow) → Type 0
EachRow P rows = (k : ℕ) (r : CacheRow) → slice_index_or rows k None ≡ Some r → P r

-- each live cache has fewer pages than 2 ^ 32
abbrev pub AreShort : List (Option CacheRow) → Type 0
AreShort = EachRow (λ r. r.pages < 2 ^ 32)

-- there is a grant and a count of locks for each page
pub record IsFull (r : CacheRow) : Type 0 where
  pub grants : length r.grants ≡ r.pages
  pub locks : length r.locks ≡ r.pages

-- a name of a page whose number is that of no other page
abbrev pub IsShort : NodeName → Type 0
IsShort (Live cache page) = page.0 < 2 ^ 32
IsShort (Working k) = Unit {0}

-- a name of a page is that of a page of a live cache
abbrev pub IsNameOfPage : List (Option CacheRow) → NodeName → Type 0
IsNameOfPage rows (Live cache page) = HasRow rows cache.0 page.0
IsNameOfPage rows (Working k) = Unit {0}

-- The node of a page is found under the page's number, and the page is one of a live cache, so no
-- number at or above those of the next cache has a node. The numbers of two caches are apart. Nor
-- is there a node under the number of a page of a cache that is yet to be made.
pub record ArePlaced (m : PageNodes) (rows : List (Option CacheRow)) : Type 0 where
  pub paged : ArePaged m.cells m.pages
  pub placed : (n : NodeId) (d : Cell) → find m n ≡ Some d → IsNameOfPage rows d.name
  pub short : AreShort rows
  pub first : (n : ℕ) → n < 2 ^ 61 → HasCell m.cells n → n < page_number (length rows + 1) 0

-- what holds of the caches: nodes are placed, and each row is full
pub record AreRight (m : PageNodes) (c : CacheRows) : Type 0 where
  pub placed : ArePlaced m c.rows
  pub full : EachRow IsFull c.rows
