-- The segments that name the caches of a machine which keeps all bytes itself.
use Rattle.std.specs.Prelude.{◌≡◌, ℕ, true, List, length, Option, None, Some, slice_get, IfSome}
use Rattle.std.specs.FinMap.{get}
use Rattle.vm_ids.specs.Denying.{denies}
use Rattle.vm_ids.specs.Held.{Held, Segments, segments_in, segments_of}
use Rattle.vm_model.specs.Machine.{Machine, Cache, Page, numbered}
use Rattle.vm_model.specs.Outcome.{HasWholePages, seen_at}
use Rattle.vm_model.specs.Run.{State}
use Rattle.gmi_calls.specs.Calling.{Meanings, meanings}

-- The segment has as many pages as the cache, and those that the mapper denies for writing are the
-- cache's.
pub record Backs (s : Segments) (seg : ℕ) (c : Cache) : Type 0 where
  pub pages : List Page
  pub there : get s.pages seg ≡ Some pages
  pub many : length pages ≡ length c.pages
  pub denied : (page : ℕ) → denies s.denied seg page ≡ true
      → slice_get pages page ≡ slice_get c.pages page

-- No two live caches are of one segment, and each segment that names one backs it.
pub record AreBacked (caches : List (Option Cache)) (s : Segments) : Type 0 where
  pub apart : (a b seg : ℕ) (c d : Cache) → numbered caches a ≡ Some c → numbered caches b ≡ Some d
      → c.segment ≡ Some seg → d.segment ≡ Some seg → a ≡ b
  pub backed : (number seg : ℕ) (c : Cache) → numbered caches number ≡ Some c
      → c.segment ≡ Some seg → Backs s seg c

-- The pages have all their bytes, and the segments that are told back the caches.
pub record IsReady (m : Machine) (told : Option Held) : Type 0 where
  pub whole : HasWholePages m
  pub backed : IfSome told (λ h. AreBacked m.caches (segments_in h))

-- What the machine and the segments are, as far as a mapper tells. It tells no forest.
abbrev pub eager_state : Option Held → Machine → State
eager_state told m =
    record { machine = seen_at told m; forest = None; segments = segments_of told }

-- what the eager machine stands for as a manager, beside any mapper
abbrev pub eager : Meanings Machine
eager =
    meanings (λ m told. seen_at told m) (λ m told. None) (λ m told. IsReady m told) (λ m. 0)
    (λ m. None)
