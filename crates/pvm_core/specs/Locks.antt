-- How locks hold pages in page frames.
use Rattle.std.specs.Prelude.{◌≡◌, ℕ, ◌+◌, ◌≤◌, Bool, true, false, List, length, count_by, sum_by, Option, Some, None}
use Rattle.std.specs.List.{list_any, range_with_len}
use Rattle.std.specs.Option.{option_map_or}
use Rattle.vm_ids.specs.declared.command.Extent.{Extent}
use Rattle.vm_ids.specs.declared.node_name.NodeName.{NodeName}
use Rattle.vm_ids.specs.declared.node_name.NodeName.TheVariants.{Live, Working}
use Rattle.vm_ids.specs.declared.numbers.NodeId.{NodeId}
use Rattle.frame_pool.specs.Pool.{is_pinned, pinned_count}
use Rattle.global_map.specs.Pairs.{node_of}
use Rattle.local_cache.specs.Arena.{Arena, is_locked, locked_count, locks_of, node_at}
use Rattle.local_cache.specs.Own.{is_resident, own_of}
use Rattle.local_cache.specs.Reading.{name_of}
use Rattle.residency.specs.declared.store.Store.{Store}
use Rattle.vm_model.specs.Machine.{Actor, locks}

-- how many locked regions of an actor cover this page of this cache
abbrev pub locks_by : ℕ → ℕ → Option Actor → ℕ
locks_by cache page None = 0
locks_by cache page (Some regions) = count_by (locks cache page) regions

-- how many locked regions of living actors do
abbrev pub locks_over : List (Option Actor) → ℕ → ℕ → ℕ
locks_over actors cache page = sum_by (locks_by cache page) actors

-- the name is that of a locked page
abbrev pub is_locked_name : Arena → NodeName → Bool
is_locked_name a (Live cache page) = is_locked (locks_of a cache.0 page.0)
is_locked_name a (Working k) = false

-- a locked page is in the frame
abbrev pub has_locked : Arena → List (Option NodeId) → ℕ → Bool
has_locked a map frame =
    option_map_or (λ n. is_locked_name a (name_of a n)) (node_of map frame) false

-- What locks come to:
--     counted    the locks on a page are the locked regions of living actors that cover it
--     resident   a locked page is in a frame
--     pinned     the frames with locked pages are pinned, and no others
--     pins       so as many frames are pinned as pages are locked
--     few        and three frames are left that no locked page takes
pub record AreHeld (a : Arena) (s : Store) (actors : List (Option Actor)) : Type 0 where
  pub counted : (cache page : ℕ) → locks_of a cache page ≡ locks_over actors cache page
  pub resident : (cache page : ℕ) (node : NodeId) → node_at a cache page ≡ Some node
      → is_locked (locks_of a cache page) ≡ true → is_resident (own_of a node) ≡ true
  pub pinned : (frame : ℕ) → is_pinned s.frames frame ≡ has_locked a s.map frame
  pub pins : pinned_count s.frames ≡ locked_count a
  pub few : locked_count a + 3 ≤ length s.frames.held

-- one of these pages is locked
abbrev pub any_locked : Arena → Extent → Bool
any_locked a range = list_any (λ page. is_locked (locks_of a range.cache.0 page))
    (range_with_len range.first.0 range.pages)
