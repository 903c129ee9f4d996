-- The table of one cache changes, and its pages keep their nodes.
use Rattle.std.proofs.Common.{◌≡◌, ℕ, List, Option, Some, None, IsSome, is_some, option_map, slice_get, refl, sym, ap, ◌∙◌, subst}
use Rattle.std.specs.Prelude.{option_and_then}
use Rattle.vm_ids.specs.declared.numbers.CacheId.{CacheId}
use Rattle.vm_ids.specs.declared.numbers.NodeId.{NodeId}
use Rattle.vm_ids.specs.declared.numbers.PageNo.{PageNo}
use Rattle.local_cache.specs.declared.page_entry.PageEntry.{PageEntry}
use Rattle.local_cache.specs.Arena.{Arena, HasPlace, Table, cell, changed_at, entry_at, node_at, table_at}
use Rattle.local_cache.specs.Reading.{forest_of}
use Rattle.local_cache.specs.Sound.{IsSound}
use Rattle.local_cache.proofs.Changes.SameCells.{alike_sound, retabled_forest}
use Rattle.local_cache.proofs.Tables.Listing.{node_by_entry, node_in}
use Rattle.local_cache.proofs.Tables.Sizes.{each_changed}

-- the node of a page among the entries of a table
abbrev node_among : ℕ → Option (List PageEntry) → Option NodeId
node_among page o = option_and_then (λ (es : List PageEntry). option_and_then (λ (e : PageEntry). e.node) (slice_get es page)) o

by_entries : (ts : List (Option Table)) (cache page : ℕ) → node_in ts cache page ≡ node_among page (option_map (λ (t : Table). t.pages) (table_at ts cache))
by_entries ts cache page = go (table_at ts cache)
  where
    go : (o : Option Table) → option_and_then (λ (t : Table). option_and_then (λ (e : PageEntry). e.node) (slice_get t.pages page)) o ≡ node_among page (option_map (λ (t : Table). t.pages) o)
    go None = refl
    go (Some t) = refl

-- the entry of a page among them
abbrev entry_among : ℕ → Option (List PageEntry) → Option PageEntry
entry_among page o = option_and_then (λ (es : List PageEntry). slice_get es page) o

entry_by : (ts : List (Option Table)) (cache page : ℕ) → entry_at ts cache page ≡ entry_among page (option_map (λ (t : Table). t.pages) (table_at ts cache))
entry_by ts cache page = go (table_at ts cache)
  where
    go : (o : Option Table) → option_and_then (λ (t : Table). slice_get t.pages page) o ≡ entry_among page (option_map (λ (t : Table). t.pages) o)
    go None = refl
    go (Some t) = refl

module _ (change : Table → Table) (same : (t : Table) → (change t).pages ≡ t.pages) where
  -- the nodes of pages stay
  nodes_stay : (ts : List (Option Table)) (at cache page : ℕ) → node_in (changed_at ts at change) cache page ≡ node_in ts cache page
  nodes_stay ts at cache page =
      by_entries (changed_at ts at change) cache page ∙ ap (node_among page) (each_changed (λ (t : Table). t.pages) change same ts at cache) ∙ sym (by_entries ts cache page)

  module _ (a b : Arena) (at : ℕ) (e : b ≡ record a { caches = changed_at a.caches at change }) where
    pub changed_forest : forest_of b ≡ forest_of a
    changed_forest = ap forest_of e ∙ retabled_forest a (changed_at a.caches at change)

    pub changed_sound : IsSound a → IsSound b
    changed_sound sound = subst IsSound (sym e) (alike_sound a (record a { caches = changed_at a.caches at change }) refl refl (nodes_stay a.caches at) sound)

    -- the nodes are as they were
    pub changed_cell : (n : NodeId) → cell b n ≡ cell a n
    unfolding cell
    changed_cell n = ap (λ x. cell x n) e

    -- the pages stay
    pub changed_entry : (cache page : ℕ) → entry_at b.caches cache page ≡ entry_at a.caches cache page
    changed_entry cache page =
        ap (λ (x : Arena). entry_at x.caches cache page) e ∙ entry_by (changed_at a.caches at change) cache page
        ∙ ap (entry_among page) (each_changed (λ (t : Table). t.pages) change same a.caches at cache) ∙ sym (entry_by a.caches cache page)

-- Which pages there are

-- a page that has a node is there
pub node_place : (a : Arena) (cache : CacheId) (page : PageNo) (n : NodeId) → node_at a cache.0 page.0 ≡ Some n → HasPlace a cache page
node_place a cache page n is = go (entry_at a.caches cache.0 page.0) (sym (node_by_entry a.caches cache.0 page.0) ∙ is)
  where
    go : (o : Option PageEntry) → option_and_then (λ (e : PageEntry). e.node) o ≡ Some n → IsSome o
    go None e = absurd (cc e)
    go (Some entry) e = refl
