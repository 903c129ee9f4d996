-- How many pages the machine has locked with one more region, by the tables as they are before.
use Rattle.std.proofs.Common.{◌≡◌, ℕ, zero, suc, ◌+◌, ◌-◌, ◌<◌, ◌≤◌, Bool, true, false, List, [], ◌∷◌, get_or, length, map, Option, Some, None, option_map, unwrap_or, slice_get, refl, sym, ap, ◌∙◌, arith, inl, inr, subst}
use Rattle.std.specs.Prelude.{nat_lt, option_and_then}
use Rattle.std.specs.List.{All, range_with_len}
use Rattle.std.proofs.lemmas.Bool.{cases_lt}
use Rattle.vm_ids.specs.declared.command.Extent.{Extent}
use Rattle.vm_ids.proofs.Places.{bit}
use Rattle.local_cache.specs.Arena.{Arena, Table, locked_count, locks_of, table_of}
use Rattle.local_cache.specs.Whole.{size_of}
use Rattle.vm_model.specs.Answering.{passes_lock_limit}
use Rattle.vm_model.specs.Machine as model
use Rattle.vm_model.specs.Machine.{Region, cache_of, locked_pages, locks, pages_in}
use Rattle.vm_model.specs.Regions.{mapping_of, region_with, replace_in, with_lock}
use Rattle.vm_model.specs.PageForest.{PageForest}
use Rattle.vm_model.specs.declared.limits.TheConstants.{UNLOCKED_FRAMES}
use Rattle.contexts.specs.Actors.{Actors, machine_with}
use Rattle.contexts.proofs.Placing.{right_with_locked}
use Rattle.contexts.proofs.RegionRows.{with_locked}
use Rattle.contexts.specs.Placed.{ArePlaced, AreRight}
use Rattle.pvm_core.specs.Holding.{LocksMore, covers, unlocked_in}
use Rattle.pvm_core.specs.Locks.{locks_over}
use Rattle.pvm_core.specs.Manager.{caches_shown}
use Rattle.pvm_core.proofs.Locking.Counted.{count_at, pages_counted}
use Rattle.pvm_core.proofs.Locking.Covered.{as_locked, over_out, replaced_over}
use Rattle.pvm_core.proofs.Locking.Totals.{locked_more}
use Rattle.pvm_core.proofs.Meaning.Shown.{shown_made, shown_size}

-- Tables with other locks

abbrev table_with_locks : (ℕ → ℕ) → Table → Table
table_with_locks g t = record t { locks = map g (range_with_len 0 (length t.pages)) }

abbrev retabled : (ℕ → ℕ → ℕ) → ℕ → List (Option Table) → List (Option Table)
retabled f n [] = []
retabled f n (o ∷ os) = option_map (table_with_locks (f n)) o ∷ retabled f (n + 1) os

-- the caches with so many locks on each page
abbrev pub relocked : (ℕ → ℕ → ℕ) → Arena → Arena
relocked f a = record a { caches = retabled f 1 a.caches }

retabled_at : (f : ℕ → ℕ → ℕ) (n : ℕ) (ts : List (Option Table)) (k : ℕ) → get_or (retabled f n ts) k None ≡ option_map (table_with_locks (f (n + k))) (get_or ts k None)
retabled_at f n [] k = refl
retabled_at f n (t ∷ ts) zero = ap (λ j. option_map (table_with_locks (f j)) t) (let e : n ≡ n + 0 = omega arith in e)
retabled_at f n (t ∷ ts) (suc k) = retabled_at f (n + 1) ts k ∙ ap (λ j. option_map (table_with_locks (f j)) (get_or ts k None)) (let e : n + 1 + k ≡ n + suc k = omega arith in e)

retabled_made : (f : ℕ → ℕ → ℕ) (n : ℕ) (ts : List (Option Table)) → length (retabled f n ts) ≡ length ts
retabled_made f n [] = refl
retabled_made f n (t ∷ ts) = ap suc (retabled_made f (n + 1) ts)

table_then : (f : ℕ → ℕ → ℕ) (a : Arena) (k : ℕ) → table_of (relocked f a) (suc k) ≡ option_map (table_with_locks (f (suc k))) (table_of a (suc k))
table_then f a k = retabled_at f 1 a.caches k ∙ ap (λ j. option_map (table_with_locks (f j)) (get_or a.caches k None)) (let e : 1 + k ≡ suc k = omega arith in e)

same_size : (g : ℕ → ℕ) (o : Option Table) → option_map (λ (t : Table). length t.pages) (option_map (table_with_locks g) o) ≡ option_map (λ (t : Table). length t.pages) o
same_size g None = refl
same_size g (Some t) = refl

size_then : (f : ℕ → ℕ → ℕ) (a : Arena) (cache : ℕ) → size_of (relocked f a) cache ≡ size_of a cache
size_then f a zero = refl
size_then f a (suc k) = ap (option_map (λ (t : Table). length t.pages)) (table_then f a k) ∙ same_size (f (suc k)) (table_of a (suc k))

mapped_in : (g : ℕ → ℕ) (k n i : ℕ) → i < n → count_at (map g (range_with_len k n)) i ≡ g (k + i)
mapped_in g k zero i less = absurd (omega (arith, less))
mapped_in g k (suc n) zero less = ap g (let e : k ≡ k + 0 = omega arith in e)
mapped_in g k (suc n) (suc i) less = mapped_in g (k + 1) n i (omega (arith, less)) ∙ ap g (let e : k + 1 + i ≡ k + suc i = omega arith in e)

mapped_out : (g : ℕ → ℕ) (k n i : ℕ) → n ≤ i → count_at (map g (range_with_len k n)) i ≡ 0
mapped_out g k zero i past = refl
mapped_out g k (suc n) zero past = absurd (omega (arith, past))
mapped_out g k (suc n) (suc i) past = mapped_out g (k + 1) n i (omega (arith, past))

-- where no page that isn't there has a lock
module _ (f : ℕ → ℕ → ℕ) (a : Arena) (out : (cache page : ℕ) → ((count : ℕ) → size_of a cache ≡ Some count → count ≤ page) → f cache page ≡ 0) where
  abbrev locks_in : ℕ → Option Table → ℕ
  locks_in page o = unwrap_or (option_and_then (λ (t : Table). slice_get t.locks page) o) 0

  by_table : (cache page : ℕ) (o : Option Table) → table_of a cache ≡ o → locks_in page (option_map (table_with_locks (f cache)) o) ≡ f cache page
  by_table cache page None at = sym (out cache page (λ count e. absurd (let none : None ≡ Some count = sym (ap (option_map (λ (t : Table). length t.pages)) at) ∙ e in cc none)))
  by_table cache page (Some t) at = elim (cases_lt page (length t.pages)) [
    | inl less ↦ mapped_in (f cache) 0 (length t.pages) page less ∙ ap (f cache) (let e : 0 + page ≡ page = omega arith in e)
    | inr past ↦ (
        mapped_out (f cache) 0 (length t.pages) page past
        ∙ sym (out cache page (λ count e. (let same : Some (length t.pages) ≡ Some count = sym (ap (option_map (λ (t : Table). length t.pages)) at) ∙ e in let n : length t.pages ≡ count = cc same in omega (arith, n, past)))))
  ]

  pub locks_then : (cache page : ℕ) → locks_of (relocked f a) cache page ≡ f cache page
  locks_then zero page = sym (out zero page (λ count e. absurd (cc e)))
  locks_then (suc k) page = ap (locks_in page) (table_then f a k) ∙ by_table (suc k) page (table_of a (suc k)) refl

-- The machine's caches have the sizes of their tables

unwrapped : (o : Option model.Cache) → pages_in o ≡ unwrap_or (option_map (λ (c : model.Cache). length c.pages) o) 0
unwrapped None = refl
unwrapped (Some c) = refl

pub sizes_shown : (f : PageForest) (frames : ℕ) (a : Arena) (t : Actors) (cache : ℕ) → pages_in (cache_of (machine_with (caches_shown f 1 a.caches) frames t) cache) ≡ unwrap_or (size_of a cache) 0
sizes_shown f frames a t cache = unwrapped (model.numbered (caches_shown f 1 a.caches) cache) ∙ ap (λ (o : Option ℕ). unwrap_or o 0) (shown_size f a.caches cache)

-- A region more is locked

-- what a region covers
abbrev pub pages_of : Region → Extent
pages_of r = (mapping_of r).extent

bits : (cache page : ℕ) (r : Region) → (bit (locks cache page (as_locked true r)) ≡ bit (covers (pages_of r) cache page)) × (bit (locks cache page (as_locked false r)) ≡ 0)
bits cache page r = (refl, refl)

as_it_is : (b : Bool) (r : Region) → r.locked ≡ b → as_locked b r ≡ r
as_it_is b r e = λ i. record r { locked = sym e i }

-- an unlocked region that is locked
pub over_locked : (n : ℕ) (r : Region) (xs : List (Option model.Actor)) → region_with n xs ≡ Some r → r.locked ≡ false → (cache page : ℕ) → locks_over (replace_in n (with_lock true) xs) cache page ≡ locks_over xs cache page + bit (covers (pages_of r) cache page)
over_locked n r xs found free cache page =
    omega (arith, replaced_over cache page n true r xs found, (bits cache page r).0, (bits cache page r).1, ap (λ (y : Region). bit (locks cache page y)) (as_it_is false r free))

-- a locked one that is unlocked
pub over_unlocked : (n : ℕ) (r : Region) (xs : List (Option model.Actor)) → region_with n xs ≡ Some r → r.locked ≡ true → (cache page : ℕ) → locks_over xs cache page ≡ locks_over (replace_in n (with_lock false) xs) cache page + bit (covers (pages_of r) cache page)
over_unlocked n r xs found locked cache page =
    omega (arith, replaced_over cache page n false r xs found, (bits cache page r).0, (bits cache page r).1, ap (λ (y : Region). bit (locks cache page y)) (as_it_is true r locked))

module _ (a : Arena) (t : Actors) (counted : (cache page : ℕ) → locks_of a cache page ≡ locks_over t.actors cache page) (right : AreRight (size_of a) t) (n : ℕ) (r : Region) (found : region_with n t.actors ≡ Some r) (free : r.locked ≡ false) where
  abbrev u : Actors
  u = with_locked n true t

  abbrev b : Arena
  b = relocked (locks_over u.actors) a

  placed_then : All (ArePlaced (size_of a)) u.actors
  placed_then = (right_with_locked (size_of a) n true r t found right).placed

  counted_then : (cache page : ℕ) → locks_of b cache page ≡ locks_over u.actors cache page
  counted_then = locks_then (locks_over u.actors) a (λ cache page out. over_out (size_of a) cache page out u.actors placed_then)

  more : LocksMore (pages_of r) a b
  more cache page = counted_then cache page ∙ over_locked n r t.actors found free cache page ∙ ap (λ k. k + bit (covers (pages_of r) cache page)) (sym (counted cache page))

  -- so many pages of the machine are locked then
  pub locked_then : (f : PageForest) (frames : ℕ) → locked_pages (machine_with (caches_shown f 1 a.caches) frames u) ≡ locked_count a + unlocked_in a (pages_of r)
  locked_then f frames =
      pages_counted b (machine_with (caches_shown f 1 a.caches) frames u) counted_then (subst (λ (sizes : ℕ → Option ℕ). All (ArePlaced sizes) u.actors) (λ i cache. sym (size_then (locks_over u.actors) a cache) i) placed_then)
      (λ cache. sizes_shown f frames a u cache ∙ ap (λ (o : Option ℕ). unwrap_or o 0) (sym (size_then (locks_over u.actors) a cache)))
      (shown_made f 1 a.caches ∙ sym (retabled_made (locks_over u.actors) 1 a.caches))
      ∙ locked_more a b (pages_of r) more

  pub limit_is : (f : PageForest) (frames : ℕ) → passes_lock_limit (machine_with (caches_shown f 1 a.caches) frames u) ≡ nat_lt (frames - UNLOCKED_FRAMES) (locked_count a + unlocked_in a (pages_of r))
  limit_is f frames = ap (nat_lt (frames - UNLOCKED_FRAMES)) (locked_then f frames)
