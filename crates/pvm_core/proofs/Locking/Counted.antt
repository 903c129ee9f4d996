-- How many pages are locked: by the tables of the caches, and by the regions of the machine.
use Rattle.std.proofs.Common.{◌≡◌, ℕ, zero, suc, ◌+◌, ◌<◌, ◌≤◌, Bool, false, List, [], ◌∷◌, get_or, length, count_by, sum_by, Option, Some, None, option_map, unwrap_or, slice_get, refl, sym, ap, ◌∙◌, arith}
use Rattle.std.specs.Prelude.{option_and_then}
use Rattle.std.specs.List.{All, range_with_len}
use Rattle.std.proofs.lemmas.List.Sums.{sum_by-cons}
use Rattle.vm_ids.proofs.Places.{bit}
use Rattle.local_cache.specs.Arena.{Arena, Table, is_locked, locked_count, locks_of, table_of}
use Rattle.local_cache.specs.Arena as arena
use Rattle.local_cache.specs.Whole.{size_of}
use Rattle.vm_model.specs.Machine.{Machine, cache_of, is_locked_page, locked_in, locked_pages, pages_in}
use Rattle.pvm_core.specs.Locks.{locks_over}
use Rattle.contexts.specs.Placed.{ArePlaced}
use Rattle.pvm_core.proofs.Locking.Covered.{over_out, page_locked}

abbrev pub count_at : List ℕ → ℕ → ℕ
count_at xs i = unwrap_or (slice_get xs i) 0

-- where every count is 0, none is locked
none_locked : (xs : List ℕ) → ((i : ℕ) → is_locked (count_at xs i) ≡ false) → count_by is_locked xs ≡ 0
none_locked [] none = refl
none_locked (x ∷ xs) none = omega (arith, sum_by-cons (λ y. bit (is_locked y)) x xs, ap bit (none 0), none_locked xs (λ i. none (suc i)))

-- the numbers of a range that pass are the counts of a list that are locked
pub range_counted : (g : ℕ → Bool) (n k : ℕ) (xs : List ℕ) → ((i : ℕ) → i < n → g (k + i) ≡ is_locked (count_at xs i)) → ((i : ℕ) → n ≤ i → is_locked (count_at xs i) ≡ false) → count_by g (range_with_len k n) ≡ count_by is_locked xs
range_counted g zero k xs same out = sym (none_locked xs (λ i. out i (omega arith)))
range_counted g (suc n) k [] same out =
    let here : k + 0 ≡ k = omega arith in
    let next : (i : ℕ) → k + 1 + i ≡ k + suc i = λ i. omega arith in
    omega (
      arith,
      sum_by-cons (λ y. bit (g y)) k (range_with_len (k + 1) n),
      ap (λ j. bit (g j)) here,
      ap bit (same 0 (omega arith)),
      range_counted g n (k + 1) [] (λ i less. ap g (next i) ∙ same (suc i) (omega arith)) (λ i past. refl),
    )
range_counted g (suc n) k (x ∷ xs) same out =
    let here : k + 0 ≡ k = omega arith in
    let next : (i : ℕ) → k + 1 + i ≡ k + suc i = λ i. omega arith in
    omega (
      arith,
      sum_by-cons (λ y. bit (g y)) k (range_with_len (k + 1) n),
      sum_by-cons (λ y. bit (is_locked y)) x xs,
      ap (λ j. bit (g j)) here,
      ap bit (same 0 (omega arith)),
      range_counted g n (k + 1) xs (λ i less. ap g (next i) ∙ same (suc i) (omega arith)) (λ i past. out (suc i) (omega arith)),
    )

-- the sum over the numbers of a range is that over a list
pub range_summed : {X : Type 0} (g : ℕ → ℕ) (f : Option X → ℕ) (xs : List (Option X)) (k : ℕ) → ((i : ℕ) → g (k + i) ≡ f (get_or xs i None)) → sum_by g (range_with_len k (length xs)) ≡ sum_by f xs
range_summed g f [] k same = refl
range_summed g f (x ∷ xs) k same =
    let here : k + 0 ≡ k = omega arith in
    let next : (i : ℕ) → k + 1 + i ≡ k + suc i = λ i. omega arith in
    omega (arith, sum_by-cons g k (range_with_len (k + 1) (length xs)), sum_by-cons f x xs, ap g here, same 0, range_summed g f xs (k + 1) (λ i. ap g (next i) ∙ same (suc i)))

-- The tables count the locked regions that cover each page, and the machine's caches have these
-- sizes.
module _ (a : Arena) (m : Machine) (counted : (cache page : ℕ) → locks_of a cache page ≡ locks_over m.actors cache page) (placed : All (ArePlaced (size_of a)) m.actors)
    (sizes : (cache : ℕ) → pages_in (cache_of m cache) ≡ unwrap_or (size_of a cache) 0) (made : length m.caches ≡ length a.caches) where
  unwrapped : (o : Option ℕ) (n count : ℕ) → n ≡ unwrap_or o 0 → o ≡ Some count → count ≡ n
  unwrapped None n count e is = absurd (cc is)
  unwrapped (Some k) n count e is = let same : k ≡ count = cc is in sym same ∙ sym e

  here : (cache page : ℕ) (t : Table) → table_of a cache ≡ Some t → is_locked_page m cache page ≡ is_locked (count_at t.locks page)
  here cache page t at = page_locked m cache page ∙ ap is_locked (sym (counted cache page) ∙ ap (λ (o : Option Table). unwrap_or (option_and_then (λ (t : Table). slice_get t.locks page) o) 0) at)

  past : (cache page : ℕ) (t : Table) → table_of a cache ≡ Some t → pages_in (cache_of m cache) ≤ page → is_locked (count_at t.locks page) ≡ false
  past cache page t at low = sym (here cache page t at) ∙ page_locked m cache page ∙ ap is_locked (over_out (size_of a) cache page (λ count there. let e = unwrapped (size_of a cache) (pages_in (cache_of m cache)) count (sizes cache) there in omega (arith, e, low)) m.actors placed)

  pub cache_counted : (cache : ℕ) → locked_in m cache ≡ arena.locked_pages (table_of a cache)
  cache_counted cache = go (table_of a cache) refl
    where
      go : (o : Option Table) → table_of a cache ≡ o → locked_in m cache ≡ arena.locked_pages o
      go None at =
          let none : pages_in (cache_of m cache) ≡ 0 = sizes cache ∙ ap (λ (o : Option Table). unwrap_or (option_map (λ (t : Table). length t.pages) o) 0) at in
          ap (λ n. count_by (is_locked_page m cache) (range_with_len 0 n)) none
      go (Some t) at = range_counted (is_locked_page m cache) (pages_in (cache_of m cache)) 0 t.locks
          (λ i less. let zeroth : 0 + i ≡ i = omega arith in ap (is_locked_page m cache) zeroth ∙ here cache i t at)
          (λ i low. past cache i t at low)

  -- so many pages of the machine are locked as have a lock in the tables
  pub pages_counted : locked_pages m ≡ locked_count a
  pages_counted =
      let next : (i : ℕ) → 1 + i ≡ suc i = λ i. omega arith in
      ap (λ n. sum_by (locked_in m) (range_with_len 1 n)) made ∙ range_summed (locked_in m) arena.locked_pages a.caches 1 (λ i. ap (locked_in m) (next i) ∙ cache_counted (suc i))
