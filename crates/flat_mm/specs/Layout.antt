-- What the fields of a `PageStore` stand for. No public clause cites this module.
use Rattle.std.specs.Prelude.{◌≡◌, ◌==◌, ◌+◌, ◌≤◌, ◌^◌, ℕ, false, not, List, [], All, Option, None, Some, count_by, length, map, option_map, sum_by, if◌then◌else◌}
use Rattle.frame_pool.specs.Pool.{Frames, bytes_of, is_held, is_pinned}
use Rattle.flat_mm.specs.Frames.{Framed}
use Rattle.flat_mm.specs.Store.{Cache, Page, Store}
use Rattle.flat_mm.specs.declared.framed.FramedPage.{FramedPage}
use Rattle.flat_mm.specs.declared.store.PageStore.TheInside.{Inside}

abbrev pub page_shown : Frames → FramedPage → Page
page_shown f p = record { bytes = bytes_of f p.frame.0; changed = p.changed }

abbrev pub cache_shown : Frames → Framed → Cache
cache_shown f c = record { segment = c.segment; pages = map (page_shown f) c.pages }

abbrev pub caches_shown : Frames → List (Option Framed) → List (Option Cache)
caches_shown f caches = map (option_map (cache_shown f)) caches

abbrev pub free_frames : Frames → ℕ
free_frames f = count_by (λ held. not held) f.held

abbrev pub store_shown : Frames → List (Option Framed) → List FramedPage → Store
store_shown f caches loose = record {
  page_bytes = f.page;
  frames = length f.held;
  free = free_frames f;
  caches = caches_shown f caches;
  loose = map (page_shown f) loose;
}

abbrev pub store_seen : Inside → Store
store_seen a = store_shown a.frames a.caches.items a.loose.items

abbrev pub pages_in : Option Framed → List FramedPage
pages_in None = []
pages_in (Some c) = c.pages

-- how many of these pages are in the frame
abbrev pub uses : ℕ → List FramedPage → ℕ
uses frame pages = count_by (λ (p : FramedPage). p.frame.0 == frame) pages

-- how many of all pages are
abbrev pub times_used : List (Option Framed) → List FramedPage → ℕ → ℕ
times_used caches loose frame = sum_by (λ c. uses frame (pages_in c)) caches + uses frame loose

-- how many pages there are in all
abbrev pub page_total : List (Option Framed) → List FramedPage → ℕ
page_total caches loose = sum_by (λ c. length (pages_in c)) caches + length loose

-- each frame has all its bytes, and none is pinned
pub record AreFramesSound (f : Frames) : Type 0 where
  pub few : length f.held ≤ 2 ^ 16
  pub listed : length f.bytes ≡ length f.held
  pub whole : All (λ b. length b ≡ f.page) f.bytes
  pub unpinned : (frame : ℕ) → is_pinned f frame ≡ false

-- a frame that is held has one page, and any other none; pages and free frames are all there are
pub record IsFramed (f : Frames) (caches : List (Option Framed)) (loose : List FramedPage)
    : Type 0 where
  pub frames : AreFramesSound f
  pub used : (frame : ℕ) → times_used caches loose frame ≡ (if is_held f frame then 1 else 0)
  pub counted : page_total caches loose + free_frames f ≡ length f.held

abbrev pub IsStoreSound : Inside → Type 0
IsStoreSound a = IsFramed a.frames a.caches.items a.loose.items
