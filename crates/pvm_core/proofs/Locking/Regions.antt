-- The regions of an actor, one after the other.
use Rattle.std.proofs.Common.{◌≡◌, ℕ, zero, suc, ◌+◌, ◌<◌, ◌≤◌, Bool, true, false, ◌&&◌, ◌==◌, List, [], ◌∷◌, count_by, take, Option, Some, None, option_map, slice_get, refl, ap, ◌∙◌, arith, subst}
use Rattle.std.specs.Prelude.{nat_le, nat_lt}
use Rattle.std.specs.List.{All}
use Rattle.std.proofs.lemmas.List.Elements.{All-head, All-tail}
use Rattle.std.proofs.lemmas.List.Sums.{sum_by-cons}
use Rattle.vm_ids.proofs.Places.{bit}
use Rattle.vm_model.specs.Machine.{Actor, Region, locks}
use Rattle.regions.specs.AddressSpace.{view_of}
use Rattle.regions.specs.declared.region.RegionView.{RegionView}
use Rattle.local_cache.specs.Arena.{Arena, locks_of}
use Rattle.local_cache.specs.Whole.{SameCaches, size_of}
use Rattle.segment_ops.specs.Ranges.{HasRange, IsPageOf}
use Rattle.pvm_core.specs.Holding.{LocksMore, covers}
use Rattle.contexts.specs.Placed.{HasItsPages}
use Rattle.pvm_core.proofs.Locking.Extents.{covers_yes}
use Rattle.pvm_core.proofs.Locking.Limit.{pages_of}

-- the region of which this is told
pub record IsViewOf (rs : Actor) (place : ℕ) (view : RegionView) : Type 0 where
  pub region : Region
  pub here : slice_get rs place ≡ Some region
  pub is : view_of region ≡ view

pub viewed : (rs : Actor) (place : ℕ) (view : RegionView) → option_map view_of (slice_get rs place) ≡ Some view → IsViewOf rs place view
viewed rs place view e = go (slice_get rs place) refl e
  where
    go : (o : Option Region) → slice_get rs place ≡ o → option_map view_of o ≡ Some view → IsViewOf rs place view
    go None here e = absurd (cc e)
    go (Some r) here e = record { region = r; here = here; is = cc e }

pub all_at : {X : Type 0} (P : X → Type 0) (xs : List X) (place : ℕ) (x : X) → All P xs → slice_get xs place ≡ Some x → P x
all_at P [] place x all here = absurd (cc here)
all_at P (y ∷ ys) zero x all here = let same : y ≡ x = cc here in subst P same (All-head P y ys all)
all_at P (y ∷ ys) (suc i) x all here = all_at P ys i x (All-tail P y ys all) here

-- so many regions of the first ones pass, and one more
pub take_next : (p : Region → Bool) (rs : Actor) (i : ℕ) (r : Region) → slice_get rs i ≡ Some r → count_by p (take (i + 1) rs) ≡ count_by p (take i rs) + bit (p r)
take_next p [] i r here = absurd (cc here)
take_next p (x ∷ xs) zero r here =
    let same : x ≡ r = cc here in
    omega (arith, sum_by-cons (λ y. bit (p y)) x [], ap (λ y. bit (p y)) same)
take_next p (x ∷ xs) (suc i) r here =
    let next : suc i + 1 ≡ suc (i + 1) = omega arith in
    omega (arith, ap (λ k. count_by p (take k (x ∷ xs))) next, sum_by-cons (λ y. bit (p y)) x (take (i + 1) xs), sum_by-cons (λ y. bit (p y)) x (take i xs), take_next p xs i r here)

pub take_few : (p : Region → Bool) (rs : Actor) (i : ℕ) → count_by p (take i rs) ≤ count_by p rs
take_few p [] i = none i
  where
    none : (i : ℕ) → count_by p (take i []) ≤ 0
    none zero = omega arith
    none (suc i) = omega arith
take_few p (x ∷ xs) zero = omega arith
take_few p (x ∷ xs) (suc i) = omega (arith, sum_by-cons (λ y. bit (p y)) x (take i xs), sum_by-cons (λ y. bit (p y)) x xs, take_few p xs i)

-- a locked region covers its pages
pub locked_covers : (cache page : ℕ) (r : Region) → r.locked ≡ true → locks cache page r ≡ covers (pages_of r) cache page
locked_covers cache page r e = ap (λ b. b && r.cache == cache && nat_le r.offset page && nat_lt page (r.offset + r.pages)) e

-- and an unlocked one none
pub unlocked_covers : (cache page : ℕ) (r : Region) → r.locked ≡ false → locks cache page r ≡ false
unlocked_covers cache page r e = ap (λ b. b && r.cache == cache && nat_le r.offset page && nat_lt page (r.offset + r.pages)) e

-- it lies in its cache
pub placed_range : (a b : Arena) (r : Region) → SameCaches a b → HasItsPages (size_of a) r → HasRange b (pages_of r)
placed_range a b r same p = record { pages = p.count; size = same.sizes r.cache ∙ p.there; within = p.within }

module _ (a b d : Arena) (rs : Actor) (i : ℕ) (r : Region) (here : slice_get rs i ≡ Some r) (before : (cache page : ℕ) → locks_of a cache page ≡ locks_of b cache page + count_by (locks cache page) (take i rs)) where
  -- each page of a locked region has a lock
  pub pages_locked : ((cache page : ℕ) → count_by (locks cache page) rs ≤ locks_of a cache page) → r.locked ≡ true → (page : ℕ) → IsPageOf (pages_of r) page → 0 < locks_of b r.cache page
  pages_locked all locked page of =
      let one : locks r.cache page r ≡ true = locked_covers r.cache page r locked ∙ covers_yes (pages_of r) r.cache page (record { same = refl; from = of.0; past = of.1 }) in
      omega (arith, all r.cache page, before r.cache page, take_next (locks r.cache page) rs i r here, take_few (locks r.cache page) rs (i + 1), ap bit one)

  -- after a locked one was let go
  pub next_locked : r.locked ≡ true → LocksMore (pages_of r) d b → (cache page : ℕ) → locks_of a cache page ≡ locks_of d cache page + count_by (locks cache page) (take (i + 1) rs)
  next_locked locked less cache page = omega (arith, before cache page, less cache page, take_next (locks cache page) rs i r here, ap bit (locked_covers cache page r locked))

  -- behind an unlocked one
  pub next_unlocked : r.locked ≡ false → (cache page : ℕ) → locks_of a cache page ≡ locks_of b cache page + count_by (locks cache page) (take (i + 1) rs)
  next_unlocked free cache page = omega (arith, before cache page, take_next (locks cache page) rs i r here, ap bit (unlocked_covers cache page r free))
