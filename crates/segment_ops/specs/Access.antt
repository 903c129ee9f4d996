-- The writes of pages of a range are granted.
use Rattle.std.specs.Prelude.{◌≡◌, ℕ, ◌+◌, ◌<◌, ◌≤◌, true, false, [], map, Option, option_map, IfSome, Result, Ok, Err, Bool}
use Rattle.vm_ids.specs.Denying.{denies}
use Rattle.vm_ids.specs.Held.{Held}
use Rattle.vm_ids.specs.declared.command.Extent.{Extent}
use Rattle.vm_ids.specs.declared.numbers.PageNo.{PageNo}
use Rattle.vm_ids.specs.declared.numbers.SegId.{SegId}
use Rattle.local_cache.specs.Arena.{Arena, Table, is_granted}
use Rattle.segment_ops.specs.Ranges.{IsPageOf}

abbrev pub without_grants : Table → Table
without_grants t = record t { grants = [] }

-- the pages of the range before this one are granted, and else nothing changed: nothing at all
-- where it is the first
pub record GrantsBefore (range : Extent) (past : ℕ) (old new : Arena) : Type 0 where
  pub granted : (page : ℕ) → range.first.0 ≤ page → page < past
      → is_granted new range.cache.0 page ≡ true
  pub others : (cache page : ℕ)
      → (cache ≡ range.cache.0 → range.first.0 ≤ page → page < past → ⊥)
      → is_granted new cache page ≡ is_granted old cache page
  pub tables : map (option_map without_grants) new.caches
      ≡ map (option_map without_grants) old.caches
  pub rest : record new { caches = old.caches } ≡ old
  pub none : past ≡ range.first.0 → new ≡ old

-- each page that was granted is granted still
abbrev pub GrantsStay : Arena → Arena → Type 0
GrantsStay old new = (cache page : ℕ) → is_granted old cache page ≡ true
    → is_granted new cache page ≡ true

-- each page of the range is granted
abbrev pub IsGranted : Arena → Extent → Type 0
IsGranted a range =
    (page : ℕ) → IsPageOf range page → is_granted a range.cache.0 page ≡ true

-- the mapper doesn't deny the pages of the range before this one, where it tells
abbrev pub AllowsBefore : Extent → ℕ → Option Held → SegId → Type 0
AllowsBefore range past told segment = (page : ℕ) → range.first.0 ≤ page → page < past
    → IfSome told (λ h. denies h.denied segment.0 page ≡ false)

-- the mapper was asked for the pages of the range in rising order, up to this one, which wasn't
-- granted before
pub record IsAskedFor (range : Extent) (page : ℕ) (told : Option Held) (segment : SegId)
    (old new : Arena) : Type 0 where
  pub page_of : IsPageOf range page
  pub ungranted : is_granted old range.cache.0 page ≡ false
  pub grants : GrantsBefore range page old new
  pub allows : AllowsBefore range page told segment

-- all pages were granted, and none is denied
pub record AllGranted (range : Extent) (told : Option Held) (segment : SegId)
    (old new : Arena) : Type 0 where
  pub grants : GrantsBefore range (range.first.0 + range.pages) old new
  pub allows : AllowsBefore range (range.first.0 + range.pages) told segment

-- the first page that is denied ended it
pub record OneDenied (range : Extent) (told : Option Held) (segment : SegId)
    (old new : Arena) : Type 0 where
  pub page : ℕ
  pub asked : IsAskedFor range page told segment old new
  pub denied : IfSome told (λ h. denies h.denied segment.0 page ≡ true)

-- the answer, and what is granted then
abbrev pub IsAccess : Extent → Option Held → SegId → Arena → Arena → Result Bool PageNo → Type 0
IsAccess range told segment old new (Ok true) = AllGranted range told segment old new
IsAccess range told segment old new (Ok false) = OneDenied range told segment old new
IsAccess range told segment old new (Err page) =
    IsAskedFor range page.0 told segment old new
