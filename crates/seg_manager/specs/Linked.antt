-- Links that are found by the numbers of their caches.
use Rattle.std.specs.Prelude.{◌≡◌, ◌==◌, ◌≤◌, ℕ, List, length, Option, Some, None, option_map, slice_get, if◌then◌else◌}
use Rattle.std.specs.Ordering.{nat_cmp}
use Rattle.std.specs.FinMap.{FinMap, get}
use Rattle.vm_ids.specs.declared.numbers.CacheId.{CacheId}
use Rattle.seg_manager.specs.declared.links.Link.{Link}

-- the links in some order, at which place that of each cache is, the first and the last one, and
-- for how many there is memory
pub record Linked : Type 0 where
  pub links : List Link
  pub places : FinMap nat_cmp ℕ
  pub first : Option CacheId
  pub last : Option CacheId
  pub room : ℕ

-- what is at a place, if there is one
abbrev pub link_at : List Link → Option ℕ → Option Link
link_at links None = None
link_at links (Some place) = slice_get links place

-- the link of the cache with this number
abbrev pub link_of : Linked → ℕ → Option Link
link_of l n = link_at l.links (get l.places n)

-- a number leads to the place of its link and to no other, and there is room for all
pub record ArePlaced (links : List Link) (places : FinMap nat_cmp ℕ) (room : ℕ) : Type 0 where
  pub at : (i : ℕ) (x : Link) → slice_get links i ≡ Some x
      → get places x.kept.cache.0 ≡ Some i
  pub back : (n i : ℕ) → get places n ≡ Some i
      → option_map (λ (x : Link). x.kept.cache.0) (slice_get links i) ≡ Some n
  pub few : length links ≤ room

-- what comes after a cache, or before it
abbrev pub with_after : Option CacheId → Link → Link
with_after after x = record x { after = after }

abbrev pub with_before : Option CacheId → Link → Link
with_before before x = record x { before = before }

-- the link of the cache with this number, where that of one cache becomes another
abbrev pub changed_at : (Link → Link) → Option CacheId → ℕ → Option Link → Option Link
changed_at change None n x = x
changed_at change (Some c) n x = if c.0 == n then option_map change x else x

-- what comes first, or last, where it is what comes after no cache, or before none
abbrev pub end_set : Option CacheId → Option CacheId → Option CacheId → Option CacheId
end_set None now was = now
end_set (Some c) now was = was
