-- What a push writes to a segment: the page that the machine holds for it.
use Rattle.std.specs.Prelude.{◌≡◌, ℕ, false, List, [], ◌∷◌, Option, Some, None, option_map, option_and_then, slice_get, unwrap_or, IsSome}
use Rattle.std.specs.List.{AllByRecursion}
use Rattle.vm_ids.specs.Denying.{denies}
use Rattle.vm_ids.specs.Held.{Segments, put_segment_page}
use Rattle.vm_model.specs.Machine.{Machine, Page, Cache, cache_named}

-- a page of the live cache that this segment names, as the machine holds it
abbrev pub page_named : Machine → ℕ → ℕ → Option Page
page_named m seg page =
    option_and_then (λ (c : Cache). slice_get c.pages page) (cache_named m.caches seg)

-- the page that is pushed to a segment: it is there, and the mapper doesn't deny it
abbrev pub MayPush : Machine → Option Segments → ℕ × ℕ → Type 0
MayPush m None p = Unit {0}
MayPush m (Some s) p = IsSome (page_named m p.0 p.1) × (denies s.denied p.0 p.1 ≡ false)

abbrev pub segments_after : Machine → List (ℕ × ℕ) → Option Segments → Option Segments
segments_after m [] s = s
segments_after m (p ∷ ps) s =
    segments_after m ps
    (option_map (put_segment_page p.0 p.1 (unwrap_or (page_named m p.0 p.1) [])) s)

-- Each push is of a page of a named cache, as the machine holds it before the answer, and nothing
-- else changes a segment. A push is its segment and its page.
pub record PushRule (m : Machine) (before : Option Segments) (pushes : List (ℕ × ℕ))
    (after : Option Segments) : Type 0 where
  pub may : AllByRecursion (MayPush m before) pushes
  pub pushed : after ≡ segments_after m pushes before
