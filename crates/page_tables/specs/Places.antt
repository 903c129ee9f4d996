-- The places of entries, of which the last ones need not be there.
use Rattle.std.specs.Prelude.{ℕ, ◌-◌, ◌++◌, List, Option, None, length, replicate}
use Rattle.page_tables.specs.declared.entry.Entry.{Entry}

-- so many places, of which these are the first; the others are empty
abbrev pub places_in : ℕ → List (Option Entry) → List (Option Entry)
places_in count there = there ++ replicate (count - length there) None
