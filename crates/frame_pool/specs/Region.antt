-- The bytes of all page frames, in one region.
use Rattle.std.specs.Prelude.{◌≡◌, ℕ, ◌-◌, ◌*◌, ◌++◌, ◌≤◌, List, [], length, replicate, slice_index_or, slice_set, vec_capacity}
use Rattle.std.specs.Simd.{first_chunks}
use Rattle.frame_pool.specs.declared.region.Region.TheInside.{Inside}

-- how many bytes a page has, and the bytes of each page
pub record Pages : Type 0 where
  pub page : ℕ
  pub bytes : List (List ℕ)

-- so many pages, of which the first ones are there with these bytes; the others are zeros
abbrev pub pages_in : ℕ → ℕ → ℕ → List ℕ → List (List ℕ)
pages_in page count there bytes =
    first_chunks page there bytes ++ replicate (count - there) (replicate page 0)

abbrev pub pages_seen : Inside → Pages
pages_seen r =
    record { page = r.page; bytes = pages_in r.page r.count r.there r.bytes.items }

-- the pages that are there are whole, and there is room for all
pub record IsSound (r : Inside) : Type 0 where
  pub whole : length r.bytes.items ≡ r.there * r.page
  pub within : r.there ≤ r.count
  pub room : r.count * r.page ≤ vec_capacity r.bytes
  pub zeros : r.zeros.items ≡ replicate r.page 0

abbrev pub page_of : Pages → ℕ → List ℕ
page_of r at = slice_index_or r.bytes at []

-- the region with other bytes in one page
abbrev pub with_page : Pages → ℕ → List ℕ → Pages
with_page r at w = record r { bytes = slice_set r.bytes at w }
