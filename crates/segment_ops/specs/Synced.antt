-- Pages whose segment holds what their nodes read.
use Rattle.std.specs.Prelude.{◌≡◌, ℕ, ◌+◌, ◌<◌, ◌≤◌, zero, suc, Bool, true, false, if◌then◌else◌, ◌||◌, Some}
use Rattle.std.specs.Option.{option_map_or}
use Rattle.vm_ids.specs.declared.command.Extent.{Extent}
use Rattle.vm_ids.specs.declared.numbers.NodeId.{NodeId}
use Rattle.frame_pool.specs.Pool.{is_pinned}
use Rattle.global_map.specs.Pairs.{node_of}
use Rattle.local_cache.specs.declared.own_state.OwnState.{OwnState}
use Rattle.local_cache.specs.Arena.{Arena, node_at}
use Rattle.local_cache.specs.Own.{is_absent, is_resident, own_of}
use Rattle.residency.specs.World.{World, home_page, is_clean}
use Rattle.segment_ops.specs.Pushing.{value_at}
use Rattle.segment_ops.specs.Ranges.{IsPageOf}

-- the node has no own page, or one that its segment holds
abbrev pub is_settled : OwnState → Bool
is_settled own = is_absent own || is_clean own

-- the page of its segment is what the node reads, and no page of its own is dirty
pub record IsSynced (w : World) (n : NodeId) : Type 0 where
  pub page : value_at w n ≡ Some (home_page w n)
  pub settled : is_settled (own_of w.caches n) ≡ true

-- the pages of the range before this one are
abbrev pub AreSynced : Extent → ℕ → World → Type 0
AreSynced range past w = (page : ℕ) (n : NodeId) → range.first.0 ≤ page → page < past
    → node_at w.caches range.cache.0 page ≡ Some n → IsSynced w n

-- no page of the range is in a frame of its own
abbrev pub AreOut : Extent → Arena → Type 0
AreOut range a = (page : ℕ) (n : NodeId) → IsPageOf range page
    → node_at a range.cache.0 page ≡ Some n → is_resident (own_of a n) ≡ false

-- no page of the range is in a frame of its own that is pinned
abbrev pub AreLoose : Extent → World → Type 0
AreLoose range w = (page : ℕ) (n : NodeId) (f : ℕ) → IsPageOf range page
    → node_at w.caches range.cache.0 page ≡ Some n → node_of w.map f ≡ Some n
    → is_pinned w.frames f ≡ false

-- 1 for a page that its segment doesn't hold, and else 0
abbrev pub unclean : OwnState → ℕ
unclean own = if is_clean own then 0 else 1

-- the same for the own page of the node of a page of a cache
abbrev pub unclean_at : Arena → ℕ → ℕ → ℕ
unclean_at a cache page = option_map_or (λ n. unclean (own_of a n)) (node_at a cache page) 0

-- how many of so many pages are so, from page `first` on
abbrev pub unclean_count : Arena → ℕ → ℕ → ℕ → ℕ
unclean_count a cache first zero = 0
unclean_count a cache first (suc pages) =
    unclean_count a cache first pages + unclean_at a cache (first + pages)

-- pages that their segments hold are held there still
abbrev pub CleanStays : Arena → Arena → Type 0
CleanStays old new =
    (n : NodeId) → is_clean (own_of old n) ≡ true → is_clean (own_of new n) ≡ true
