-- By what an entry at a place is found.
use Rattle.std.specs.Prelude.{◌≡◌, ℕ, ◌+◌, ◌*◌, ◌^◌, ◌≤◌, List, length, map, Option, Some, None}
use Rattle.page_tables.specs.Entries.{actor_row, frame_row, hash_in}
use Rattle.page_tables.specs.Membership.{Membership}
use Rattle.page_tables.specs.Translations.{entries_for}
use Rattle.page_tables.specs.declared.entry.Entry.{Entry}

-- the hash under which a place is entered
abbrev pub place_hash : Option Entry → Option ℕ
place_hash None = None
place_hash (Some entry) = Some (hash_in entry)

-- the list that a place is on: that of the empty ones, or one of its frame
abbrev pub place_list : Option Entry → ℕ
place_list None = 0
place_list (Some entry) = frame_row entry.to.frame.0 entry.to.writable

-- the row that a place is in
abbrev pub place_row : Option Entry → Option ℕ
place_row None = None
place_row (Some entry) = Some (actor_row entry.actor.0)

-- the list of each place: there is always one
abbrev pub listed_at : Option Entry → Option ℕ
listed_at entry = Some (place_list entry)

-- each entry stands once, is entered under its hash, and is on the list of its frame
pub record IsIndexed (places : List (Option Entry)) (index : List (Option ℕ)) (lists : Membership)
    : Type 0 where
  pub few : length places ≤ 2 ^ 18
  pub once : (actor page : ℕ) → entries_for places actor page ≤ 1
  pub entered : index ≡ map place_hash places
  pub room : length places + 2 ≤ 2 * lists.lists
  pub on_lists : lists.on ≡ map listed_at places
