-- The frames of a pool with one of them changed, and how many there are of a kind.
use Rattle.std.specs.Prelude.{◌≡◌, ℕ, ◌-◌, ◌<◌, Bool, true, false, length, replicate, slice_set}
use Rattle.frame_pool.specs.Pool.{Frames, held_count, is_evictable, pinned_count}

-- so many free frames of so many bytes each
abbrev pub free_frames : ℕ → ℕ → Frames
free_frames count page = record {
  page = page;
  held = replicate count false;
  pinned = replicate count false;
  bytes = replicate count (replicate page 0);
}

abbrev pub with_held : Frames → ℕ → Bool → Frames
with_held p frame held = record p { held = slice_set p.held frame held }

abbrev pub with_pinned : Frames → ℕ → Bool → Frames
with_pinned p frame pinned = record p { pinned = slice_set p.pinned frame pinned }

-- there is a frame that may be evicted
abbrev pub HasEvictable : Frames → Type 0
HasEvictable p = (f : ℕ) × (f < length p.held) × (is_evictable p f ≡ true)

-- how many may be evicted, where each pinned frame is held
abbrev pub evictable_count : Frames → ℕ
evictable_count p = held_count p - pinned_count p
