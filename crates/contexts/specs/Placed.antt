-- Where the regions of the actors lie.
use Rattle.std.specs.Prelude.{◌≡◌, ℕ, ◌+◌, ◌%◌, ◌≤◌, All, Option, Some, None}
use Rattle.vm_model.specs.Machine.{Actor, Region}
use Rattle.contexts.specs.Actors.{Actors}

-- a region's pages are those of a live cache, of which `sizes` tells how many pages it has
pub record HasItsPages (sizes : ℕ → Option ℕ) (r : Region) : Type 0 where
  pub count : ℕ
  pub there : sizes r.cache ≡ Some count
  pub within : r.offset + r.pages ≤ count

-- it is of whole pages of the actor's addresses
abbrev pub IsAligned : ℕ → Region → Type 0
IsAligned page_bytes r = r.start % page_bytes ≡ 0

-- this is so of each region of an actor that is alive
abbrev pub EachRegion : (Region → Type 0) → Option Actor → Type 0
EachRegion is None = Unit {0}
EachRegion is (Some regions) = All is regions

abbrev pub ArePlaced : (ℕ → Option ℕ) → Option Actor → Type 0
ArePlaced sizes actor = EachRegion (HasItsPages sizes) actor

-- a page has a byte, and each region of a living actor is placed, and is of whole pages
pub record AreRight (sizes : ℕ → Option ℕ) (t : Actors) : Type 0 where
  pub some : 1 ≤ t.page_bytes
  pub placed : All (ArePlaced sizes) t.actors
  pub aligned : All (EachRegion (IsAligned t.page_bytes)) t.actors
