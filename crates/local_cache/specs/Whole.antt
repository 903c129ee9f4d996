-- What holds of the caches between two commands.
use Rattle.std.specs.Prelude.{◌≡◌, ℕ, ◌<◌, ◌^◌, length, Option, Some, option_map}
use Rattle.vm_ids.specs.declared.numbers.CacheId.{CacheId}
use Rattle.vm_ids.specs.declared.numbers.SegId.{SegId}
use Rattle.vm_ids.specs.Forest.NameMap.{len}
use Rattle.vm_ids.specs.Forest.Nodes.{IsNode}
use Rattle.vm_ids.specs.Forest.Shape.{IsConsistent}
use Rattle.vm_ids.specs.Forest.Commands.{page_name}
use Rattle.local_cache.specs.Arena.{Arena, table_of}
use Rattle.local_cache.specs.Reading.{forest_of}
use Rattle.local_cache.specs.Sound.{IsSound}

-- how many pages a cache has, or none where it isn't live
abbrev pub size_of : Arena → ℕ → Option ℕ
size_of a cache = option_map (λ t. length t.pages) (table_of a cache)

-- the segment that names a cache, or none where it is temporary; none at all where it isn't live
abbrev pub segment_of : Arena → ℕ → Option (Option SegId)
segment_of a cache = option_map (λ t. t.segment) (table_of a cache)

-- as many caches were made, and the same ones are live, with as many pages and of the same segments
pub record SameCaches (a b : Arena) : Type 0 where
  pub count : length b.caches ≡ length a.caches
  pub sizes : (cache : ℕ) → size_of b cache ≡ size_of a cache
  pub segments : (cache : ℕ) → segment_of b cache ≡ segment_of a cache

-- The caches are sound, their forest is consistent, each page of a live cache has a node, and the
-- nodes can be counted.
pub record IsWhole (a : Arena) : Type 0 where
  pub sound : IsSound a
  pub consistent : IsConsistent (forest_of a)
  pub pages : (cache : CacheId) (page count : ℕ) → size_of a cache.0 ≡ Some count → page < count
      → IsNode (forest_of a) (page_name cache page)
  pub few : len (forest_of a).nodes < 2 ^ 32
