-- How lists are threaded through their entries.
use Rattle.std.specs.Prelude.{◌≡◌, ℕ, ◌^◌, ◌≤◌, ◌<◌, List, length, Option, Some, None, map, count_by, slice_index, slice_index_or}
use Rattle.page_tables.specs.Membership.{is_on}
use Rattle.page_tables.specs.Links.{list_in, link_of}
use Rattle.page_tables.specs.declared.lists.Link.{Link}

-- the first entry of a list
abbrev pub head_of : List (Option ℕ) → ℕ → Option ℕ
head_of heads list = slice_index_or heads list None

-- the neighbours of an entry on a list
pub record IsMember (heads : List (Option ℕ)) (links : List Link) (rank : ℕ → ℕ) (list entry : ℕ)
    : Type 0 where
  pub known : list < length heads
  pub front : (link_of links entry).before ≡ None → head_of heads list ≡ Some entry
  pub before : (b : ℕ) → (link_of links entry).before ≡ Some b
      → ((link_of links b).list ≡ Some list) × ((link_of links b).behind ≡ Some entry)
      × (rank b < rank entry)
  pub behind : (b : ℕ) → (link_of links entry).behind ≡ Some b
      → ((link_of links b).list ≡ Some list) × ((link_of links b).before ≡ Some entry)

-- the heads, counts and links belong together; the rank rises along a list, so that none is a ring
pub record IsThreaded (heads : List (Option ℕ)) (counts : List ℕ) (links : List Link) : Type 0 where
  pub rank : ℕ → ℕ
  pub few : length links ≤ 2 ^ 18
  pub counts_length : length counts ≡ length heads
  pub counted : (list : ℕ) → list < length heads
      → slice_index counts list ≡ count_by (is_on list) (map list_in links)
  pub first : (list entry : ℕ) → head_of heads list ≡ Some entry
      → ((link_of links entry).list ≡ Some list) × ((link_of links entry).before ≡ None)
  pub members : (list entry : ℕ) → (link_of links entry).list ≡ Some list
      → IsMember heads links rank list entry
