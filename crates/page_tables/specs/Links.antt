-- The links of entries.
use Rattle.std.specs.Prelude.{ℕ, zero, suc, ◌+◌, ◌-◌, ◌++◌, List, length, map, Option, Some, None, nat_lt, if◌then◌else◌, slice_index_or, slice_set}
use Rattle.std.specs.List.{range_with_len}
use Rattle.page_tables.specs.declared.lists.Link.{Link}

-- the list of an entry with this link
abbrev pub list_in : Link → Option ℕ
list_in link = link.list

-- an entry that is on no list
abbrev pub loose : Link
loose = record { list = None; before = None; behind = None }

-- the link of an entry; an entry past the last is on no list
abbrev pub link_of : List Link → ℕ → Link
link_of links entry = slice_index_or links entry loose

-- the links after a write of who stands before an entry
abbrev pub with_before : List Link → Option ℕ → Option ℕ → List Link
with_before links None before = links
with_before links (Some entry) before =
    slice_set links entry (record (link_of links entry) { before = before })

-- the links after a write of who stands behind an entry
abbrev pub with_behind : List Link → Option ℕ → Option ℕ → List Link
with_behind links None behind = links
with_behind links (Some entry) behind =
    slice_set links entry (record (link_of links entry) { behind = behind })

-- where lists begin once an entry that stood between these neighbours is off its list
abbrev pub heads_past : List (Option ℕ) → ℕ → Option ℕ → Option ℕ → List (Option ℕ)
heads_past heads list None behind = slice_set heads list behind
heads_past heads list (Some _) behind = heads

-- the number before one, if there is one
abbrev pub number_before : ℕ → Option ℕ
number_before zero = None
number_before (suc entry) = Some entry

-- the first of so many entries, if there is one
abbrev pub first_of : ℕ → Option ℕ
first_of zero = None
first_of (suc entries) = Some 0

-- a link that was never written: on no list, or on one with all entries in their order
abbrev pub first_link : Option ℕ → ℕ → ℕ → Link
first_link None entries entry = loose
first_link (Some list) entries entry =
    record {
      list = Some list;
      before = number_before entry;
      behind = if nat_lt (entry + 1) entries then Some (entry + 1) else None;
    }

-- so many links, of which these are the first; the others were never written
abbrev pub links_in : Option ℕ → ℕ → List Link → List Link
links_in list entries there =
    there ++ map (first_link list entries) (range_with_len (length there) (entries - length there))
