-- The page tables as a list of places, each empty or with an entry.
use Rattle.std.specs.Prelude.{◌≡◌, ℕ, ◌+◌, ◌*◌, ◌<◌, ◌≤◌, ◌==◌, Bool, true, false, nat_lt, List, length, map, Option, Some, None, slice_index_or, slice_set, SomeIndex, count_by, is_some, if◌then◌else◌}
use Rattle.std.specs.List.{position_or_len, range_with_len}
use Rattle.page_tables.specs.Entries.{is_for, leads_to, read_only}
use Rattle.page_tables.specs.declared.entry.Entry.{Entry}
use Rattle.page_tables.specs.declared.entry.Translation.{Translation}

-- what is at a place; nothing past the last
abbrev pub entry_at : List (Option Entry) → ℕ → Option Entry
entry_at places place = slice_index_or places place None

-- a place has an entry that passes a test
abbrev pub holds : (Entry → Bool) → Option Entry → Bool
holds test None = false
holds test (Some entry) = test entry

-- how many places have an entry
abbrev pub entry_count : List (Option Entry) → ℕ
entry_count places = count_by is_some places

-- how many entries there are for an actor's page
abbrev pub entries_for : List (Option Entry) → ℕ → ℕ → ℕ
entries_for places actor page = count_by (holds (is_for actor page)) places

-- what the entry at a place leads to
abbrev pub seen_in : Option Entry → Option Translation
seen_in None = None
seen_in (Some entry) = Some entry.to

-- what is seen at an actor's page
abbrev pub translation : List (Option Entry) → ℕ → ℕ → Option Translation
translation places actor page =
    seen_in (entry_at places (position_or_len (holds (is_for actor page)) places))

-- there are four places for each frame, and for this one too
abbrev pub IsFrame : List (Option Entry) → ℕ → Type 0
IsFrame places frame = 4 * frame + 4 ≤ length places

-- where an entry for an actor's page may be put: at the place of the one that is there; where none
-- is, at an empty place; and where no place is empty, at any
pub record IsPlaceFor (places : List (Option Entry)) (actor page place : ℕ) : Type 0 where
  pub below : place < length places
  pub own : 1 ≤ entries_for places actor page
      → holds (is_for actor page) (entry_at places place) ≡ true
  pub empty : entries_for places actor page ≡ 0 → entry_count places < length places
      → entry_at places place ≡ None

-- an entry is put at a place for it, and each other place stays as it is
abbrev pub IsEntered : List (Option Entry) → List (Option Entry) → Entry → Type 0
IsEntered old new entry =
    SomeIndex old (λ place. (IsPlaceFor old entry.actor.0 entry.page place)
    × (new ≡ slice_set old place (Some entry)))

-- an entry is gone if it passes a test
abbrev pub unless : (Entry → Bool) → Option Entry → Option Entry
unless test None = None
unless test (Some entry) = if test entry then None else Some entry

-- what is at a place, read-only if it leads to one of these frames
abbrev pub narrowed_in : (ℕ → Bool) → Option Entry → Option Entry
narrowed_in frames None = None
narrowed_in frames (Some entry) =
    Some (if frames entry.to.frame.0 then read_only entry else entry)

-- an entry is read-only if it leads to a frame
abbrev pub narrowed : ℕ → Option Entry → Option Entry
narrowed frame = narrowed_in (λ other. other == frame)

-- what is at a place, read-only
abbrev pub read_only_at : Option Entry → Option Entry
read_only_at None = None
read_only_at (Some entry) = Some (read_only entry)

-- an entry for writing leads to a frame
abbrev pub is_written : List (Option Entry) → ℕ → Bool
is_written places frame = nat_lt 0 (count_by (holds (leads_to frame true)) places)

-- to how many of so many frames one does
abbrev pub written_count : List (Option Entry) → ℕ → ℕ
written_count places frames = count_by (is_written places) (range_with_len 0 frames)

-- the entries that lead to some frames are read-only, and of each frame to which one led for writing
-- it was answered whether it is one of these
pub record Narrows (old new : List (Option Entry)) (answer : ℕ → Bool → Type 0) : Type 0 where
  pub frames : ℕ → Bool
  pub tables : new ≡ map (narrowed_in frames) old
  pub answered : (frame : ℕ) → is_written old frame ≡ true → answer frame (frames frame)
