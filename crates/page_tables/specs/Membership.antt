-- Which entry is on which list.
use Rattle.std.specs.Prelude.{ℕ, ◌==◌, Bool, false, List, Option, Some, None, slice_index_or}

-- how many lists there are, and for each entry the list that it is on
pub record Membership : Type 0 where
  pub lists : ℕ
  pub on : List (Option ℕ)

-- the list of an entry; an entry past the last is on none
abbrev pub list_of : Membership → ℕ → Option ℕ
list_of of entry = slice_index_or of.on entry None

-- what is given is this list
abbrev pub is_on : ℕ → Option ℕ → Bool
is_on list None = false
is_on list (Some other) = other == list
