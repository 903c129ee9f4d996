-- The frames to which an entry for writing leads.
use Rattle.std.specs.Prelude.{◌≡◌, ℕ, ◌+◌, ◌*◌, ◌^◌, ◌≤◌, Bool, true, false, List, length, replicate, Option, Some, None, count_by, nat_lt, if◌then◌else◌}
use Rattle.vm_ids.specs.declared.numbers.FrameId.{FrameId}
use Rattle.page_tables.specs.Entries.{frame_row}
use Rattle.page_tables.specs.FrameSets.{has}
use Rattle.page_tables.specs.Membership.{is_on, Membership}
use Rattle.page_tables.specs.declared.entry.Entry.{Entry}

-- the frame to which an entry is for writing, if it is
abbrev pub written_frame : Option Entry → Option FrameId
written_frame None = None
written_frame (Some entry) = if entry.to.writable then Some entry.to.frame else None

-- some place is on this list
abbrev pub is_used : List (Option ℕ) → ℕ → Bool
is_used on list = nat_lt 0 (count_by (is_on list) on)

-- a set has just those frames for which a place is on the list of entries for writing
pub record IsWriting (lists : Membership) (writing : List Bool) : Type 0 where
  pub few : length writing ≤ 2 ^ 16
  pub room : lists.lists ≡ 2 * length writing + 1
  pub each : (frame : ℕ) → has writing frame ≡ is_used lists.on (frame_row frame true)

-- the set of frames is kept beside the places, and nothing is left of a walk through it
pub record IsKept (places : List (Option Entry)) (lists : Membership) (writing asked : List Bool)
    : Type 0 where
  pub sizes : length places ≡ 4 * length writing
  pub exact : IsWriting lists writing
  pub none_asked : asked ≡ replicate (length writing) false
