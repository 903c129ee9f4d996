-- Entries: what each is for, what it leads to, and by what it is found.
use Rattle.std.specs.Prelude.{ℕ, ◌+◌, ◌*◌, ◌%◌, ◌==◌, ◌&&◌, Bool, true, false, not, nat_le, nat_lt, if◌then◌else◌}
use Rattle.probe_table.specs.Hashes.{hash_of_pair}
use Rattle.page_tables.specs.declared.entry.Entry.{Entry}
use Rattle.page_tables.specs.declared.entry.Pages.{Pages}
use Rattle.page_tables.specs.declared.entry.Pages.TheVariants.{All, Range}

-- an entry for a page of this actor
abbrev pub is_of_actor : ℕ → Entry → Bool
is_of_actor actor entry = entry.actor.0 == actor

-- the entry for this page of this actor
abbrev pub is_for : ℕ → ℕ → Entry → Bool
is_for actor page entry = is_of_actor actor entry && (entry.page == page)

-- an entry that leads to this frame
abbrev pub is_in_frame : ℕ → Entry → Bool
is_in_frame frame entry = entry.to.frame.0 == frame

-- it leads to a frame, and may, or may not, write there
abbrev pub leads_to : ℕ → Bool → Entry → Bool
leads_to frame writable entry =
    is_in_frame frame entry && (if writable then entry.to.writable else not entry.to.writable)

-- one of so many pages from the first on
abbrev pub is_between : ℕ → ℕ → ℕ → Bool
is_between first pages page = nat_le first page && nat_lt page (first + pages)

-- an entry for one of so many pages of this actor
abbrev pub is_in_range : ℕ → ℕ → ℕ → Entry → Bool
is_in_range actor first pages entry =
    is_between first pages entry.page && is_of_actor actor entry

-- a page is one of these
abbrev pub is_within : Pages → ℕ → Bool
is_within All page = true
is_within (Range first pages) page = is_between first pages page

-- an entry for one of these pages of this actor
abbrev pub is_picked : ℕ → Pages → Entry → Bool
is_picked actor pages entry = is_within pages entry.page && is_of_actor actor entry

-- the same but for writing
abbrev pub read_only : Entry → Entry
read_only entry = record entry { to = record entry.to { writable = false } }

-- the hash of an entry's actor and page
abbrev pub hash_in : Entry → ℕ
hash_in entry = hash_of_pair entry.actor.0 entry.page

-- the row of an actor, of 1,024 rows
abbrev pub actor_row : ℕ → ℕ
actor_row actor = actor % 1024

-- the list of a frame's entries; there are two for each, behind that of the empty places
abbrev pub frame_row : ℕ → Bool → ℕ
frame_row frame true = 2 + 2 * frame
frame_row frame false = 1 + 2 * frame
