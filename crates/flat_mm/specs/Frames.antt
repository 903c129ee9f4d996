-- Pages and caches as they stand: each page by its frame.
use Rattle.std.specs.Prelude.{ℕ, ◌-◌, ◌==◌, Bool, false, List, Option, None, Some, option_and_then, option_map, slice_get, slice_set}
use Rattle.std.specs.Option.{option_map_or}
use Rattle.vm_ids.specs.declared.numbers.SegId.{SegId}
use Rattle.vm_model.specs.Machine.{numbered}
use Rattle.flat_mm.specs.declared.framed.FramedPage.{FramedPage}

-- the segment that names a cache, if one does, and its pages
pub record Framed : Type 0 where
  pub segment : Option SegId
  pub pages : List FramedPage

-- a page of a live cache
abbrev pub framed_at : List (Option Framed) → ℕ → ℕ → Option FramedPage
framed_at caches cache page =
    option_and_then (λ (c : Framed). slice_get c.pages page) (numbered caches cache)

abbrev pub put_framed : ℕ → FramedPage → Framed → Framed
put_framed page p c = record c { pages = slice_set c.pages page p }

-- the caches with another page in place of one
abbrev pub with_framed : List (Option Framed) → ℕ → ℕ → FramedPage → List (Option Framed)
with_framed caches cache page p =
    slice_set caches (cache - 1) (option_map (put_framed page p) (numbered caches cache))

-- a live cache of this segment
abbrev pub is_framed_of : SegId → Option Framed → Bool
is_framed_of seg None = false
is_framed_of seg (Some c) = option_map_or (λ (s : SegId). s.0 == seg.0) c.segment false
