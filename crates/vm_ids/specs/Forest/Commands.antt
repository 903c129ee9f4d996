-- The rules of whole commands. `named` says whether the cache whose pages are replaced is named by
-- a segment.
use Rattle.std.specs.Prelude.{ℕ, suc, zero, ◌+◌, List, [], ◌∷◌, map, length, Bool, true, Some, leb}
use Rattle.vm_ids.specs.declared.numbers.CacheId.{CacheId}
use Rattle.vm_ids.specs.declared.command.Span.{Span}
use Rattle.vm_ids.specs.declared.command.Extent.{Extent}
use Rattle.vm_ids.specs.declared.node_name.NodeName.{NodeName}
use Rattle.vm_ids.specs.Forest.Names.{Live}
use Rattle.vm_ids.specs.Forest.Nodes.{Forest, childless}
use Rattle.vm_ids.specs.Forest.Nodes.Hang.{Root}
use Rattle.vm_ids.specs.Forest.Changes.{put}
use Rattle.vm_ids.specs.Forest.Rules.{owned, retire, detach, copy_page, move_page}
use Rattle.vm_ids.specs.Forest.Settling.{settle}
use Rattle.vm_ids.specs.Forest.Saving.{saved}

-- the node of page p of cache c
abbrev pub page_name : CacheId → ℕ → NodeName
page_name c p = Live c (record { 0 = p })

-- the nodes of n pages of cache c, from page p on
abbrev pub page_names : CacheId → ℕ → ℕ → List NodeName
page_names c p zero = []
page_names c p (suc n) = page_name c p ∷ page_names c (p + 1) n

-- the nodes of an extent
abbrev pub extent_names : Extent → List NodeName
extent_names e = page_names e.cache e.first.0 e.pages

-- these pages, each at its node of cache c, from page p on
abbrev pub pages_at : {P : Type 0} → CacheId → ℕ → List P → List (NodeName × P)
pages_at c p [] = []
pages_at c p (v ∷ vs) = (page_name c p, v) ∷ pages_at c (p + 1) vs

-- n pairs of a page of cache d, from page q on, and the page of cache c that is copied or moved to
-- it
abbrev pub page_pairs : CacheId → ℕ → CacheId → ℕ → ℕ → List (NodeName × NodeName)
page_pairs c p d q zero = []
page_pairs c p d q (suc n) = (page_name d q, page_name c p) ∷ page_pairs c (p + 1) d (q + 1) n

-- the pairs of a span
abbrev pub span_pairs : Span → List (NodeName × NodeName)
span_pairs s = page_pairs s.from s.from_page.0 s.to s.to_page.0 s.pages

-- the destinations and the sources of such pairs, and the nodes of pages with their names
abbrev pub firsts : {A : Type 0} → List (NodeName × A) → List NodeName
firsts es = map (λ e. e.0) es

abbrev pub seconds : {A : Type 0} → List (A × NodeName) → List NodeName
seconds es = map (λ e. e.1) es

-- A copy of at most this many pages is done by stubs, a longer one by tree links.
abbrev pub small_copy : ℕ
small_copy = 8

module _ {P : Type 0} where
  -- A new cache has nodes with these own pages.
  abbrev pub make : List (NodeName × P) → Forest P → Forest P
  make [] f = f
  make (e ∷ es) f = put (make es f) e.0 (childless (Some e.1) Root)

  -- the pages of a copy, one after the other
  abbrev pub copy_pages : Bool → List (NodeName × NodeName) → Forest P → Forest P
  copy_pages is_small [] f = f
  copy_pages is_small (e ∷ es) f = copy_pages is_small es (copy_page is_small f e.0 e.1)

  -- Each first page becomes a copy of the second one.
  abbrev pub copy : Bool → List (NodeName × NodeName) → Forest P → Forest P
  copy named pairs f =
      settle (copy_pages (leb (length pairs) small_copy) pairs (saved named (firsts pairs) f))

  -- the pages of a move, one after the other
  abbrev pub move_pages : P → List (NodeName × NodeName) → Forest P → Forest P
  move_pages zeros [] f = f
  move_pages zeros (e ∷ es) f = move_pages zeros es (move_page f e.0 e.1 zeros)

  -- Each second page becomes the first one, and is a zero page then.
  abbrev pub move_ : Bool → P → List (NodeName × NodeName) → Forest P → Forest P
  move_ named zeros pairs f = settle (move_pages zeros pairs (saved named (firsts pairs) f))

  -- each page detached, with the page given as its own
  abbrev pub replace_pages : List (NodeName × P) → Forest P → Forest P
  replace_pages [] f = f
  replace_pages (e ∷ es) f = replace_pages es (detach f e.0 (Some e.1))

  -- Each page becomes the one that its segment holds.
  abbrev pub invalidate : List (NodeName × P) → Forest P → Forest P
  invalidate pages f = settle (replace_pages pages (saved true (firsts pages) f))

  -- each page retired, one after the other
  abbrev pub retire_all : List NodeName → Forest P → Forest P
  retire_all [] f = f
  retire_all (x ∷ xs) f = retire_all xs (retire f x)

  -- A cache goes with all its pages.
  abbrev pub destroy : Bool → List NodeName → Forest P → Forest P
  destroy named xs f = settle (retire_all xs (saved named xs f))

  -- Each page of a region that is locked owns its page. No heir gets anything.
  abbrev pub lock : List NodeName → Forest P → Forest P
  lock [] f = f
  lock (x ∷ xs) f = lock xs (owned f x)
