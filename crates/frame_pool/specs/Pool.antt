-- A pool of page frames.
use Rattle.std.specs.Prelude.{◌≡◌, ◌≤◌, ◌^◌, ℕ, Bool, false, ◌&&◌, not, List, [], length, slice_index_or, slice_set, count_by, map}
use Rattle.std.specs.List.{range_with_len}
use Rattle.frame_pool.specs.Marks.{set_count}
use Rattle.frame_pool.specs.declared.pool.FramePool.TheInside.{Inside}

-- the page size, and of each frame whether it is held, whether it is pinned, and its bytes
pub record Frames : Type 0 where
  pub page : ℕ
  pub held : List Bool
  pub pinned : List Bool
  pub bytes : List (List ℕ)

-- the lists have an entry for each frame
pub record IsSized (a : Inside) : Type 0 where
  pub region : length a.region.bytes ≡ length a.held
  pub pinned : length a.pinned.items ≡ length a.held
  pub few : length a.held ≤ 2 ^ 16

-- frame k has the k-th page of the region
abbrev pub frames_seen : Inside → Frames
frames_seen a =
    record {
      page = a.region.page;
      held = a.held;
      pinned = a.pinned.items;
      bytes = a.region.bytes;
    }

abbrev pub is_held : Frames → ℕ → Bool
is_held p frame = slice_index_or p.held frame false

abbrev pub is_pinned : Frames → ℕ → Bool
is_pinned p frame = slice_index_or p.pinned frame false

-- a frame that may be evicted
abbrev pub is_evictable : Frames → ℕ → Bool
is_evictable p frame = is_held p frame && not (is_pinned p frame)

-- of each frame whether it may be evicted
abbrev pub evictable_frames : Frames → List Bool
evictable_frames p = map (is_evictable p) (range_with_len 0 (length p.held))

-- how many may be evicted
abbrev pub evictable_count : Frames → ℕ
evictable_count p = set_count (evictable_frames p)

-- the lists are sized, and the marks are those of the frames that may be evicted
pub record IsSound (a : Inside) : Type 0 where
  pub sized : IsSized a
  pub marked : a.evictable ≡ evictable_frames (frames_seen a)

abbrev pub bytes_of : Frames → ℕ → List ℕ
bytes_of p frame = slice_index_or p.bytes frame []

-- the pool with other bytes in one frame
abbrev pub with_bytes : Frames → ℕ → List ℕ → Frames
with_bytes p frame w = record p { bytes = slice_set p.bytes frame w }

abbrev pub held_count : Frames → ℕ
held_count p = count_by (λ h. h) p.held

abbrev pub pinned_count : Frames → ℕ
pinned_count p = count_by (λ h. h) p.pinned
