-- A count of locks that is set.
use Rattle.std.proofs.Common.{◌≡◌, ◌≢◌, ℕ, zero, suc, ◌<◌, ◌≤◌, List, Option, Some, option_map, unwrap_or, refl, ap, arith, ◌∙◌, sym, inl, inr}
use Rattle.std.proofs.lemmas.Bool.{cases_eq}
use Rattle.std.proofs.lemmas.Option.{same_Some}
use Rattle.std.specs.Ordering.{nat_cmp}
use Rattle.std.specs.FinMap.{FinMap}
use Rattle.std.specs.FinMap as map
use Rattle.local_cache.specs.declared.cache_list.CacheEntry.{CacheEntry}
use Rattle.local_cache.specs.declared.page_marks.LockCount.{LockCount}
use Rattle.local_cache.specs.CacheList.{IsPageOf}
use Rattle.local_cache.specs.PageMarks.{locks_at, with_count}
use Rattle.local_cache.proofs.CacheList.PageNumbers.{HasPages, pages_cleared, pages_set}
use Rattle.local_cache.proofs.NodeCells.{inserted_here, inserted_other, removed_here, removed_other, still_there}

module _ (m : FinMap nat_cmp LockCount) (number : ℕ) where
  pub count_set : (count : ℕ) → 0 < count → with_count m number count ≡ map.insert m number (record { 0 = count })
  unfolding with_count
  count_set zero some = let bad : ⊥ = omega (arith, some) in absurd bad
  count_set (suc n) some = refl

  pub count_gone : (count : ℕ) → count ≤ 0 → with_count m number count ≡ map.remove m number
  unfolding with_count
  count_gone zero none = refl
  count_gone (suc n) none = let bad : ⊥ = omega (arith, none) in absurd bad

  -- how many locks the page has then, and each other page
  pub counted_here : (count : ℕ) → locks_at (with_count m number count) number ≡ count
  unfolding with_count
  counted_here zero = ap (λ (o : Option LockCount). unwrap_or (option_map (λ v. v.0) o) 0) (removed_here m number)
  counted_here (suc n) =
      ap (λ (o : Option LockCount). unwrap_or (option_map (λ v. v.0) o) 0) (inserted_here m number (record { 0 = suc n }))

  pub counted_other : (count k : ℕ) → k ≢ number → locks_at (with_count m number count) k ≡ locks_at m k
  unfolding with_count
  counted_other zero k other =
      ap (λ (o : Option LockCount). unwrap_or (option_map (λ v. v.0) o) 0) (removed_other m number k other)
  counted_other (suc n) k other =
      ap (λ (o : Option LockCount). unwrap_or (option_map (λ v. v.0) o) 0) (inserted_other m number (record { 0 = suc n }) k other)

  -- no count of 0 comes in
  pub count_above : (count : ℕ) → ((k : ℕ) (c : LockCount) → map.get m k ≡ Some c → 0 < c.0)
      → (k : ℕ) (c : LockCount) → map.get (with_count m number count) k ≡ Some c → 0 < c.0
  unfolding with_count
  count_above zero above k c is = above k c (still_there m number k c is).1
  count_above (suc n) above k c is = elim (cases_eq k number) [
    | inl same ↦
        let here : Some (record { 0 = suc n }) ≡ Some c =
        sym (ap (map.get (map.insert m number (record { 0 = suc n }))) same ∙ inserted_here m number (record { 0 = suc n })) ∙ is in
        let count : suc n ≡ c.0 = ap (λ (v : LockCount). v.0) (same_Some (record { 0 = suc n }) c here) in
        omega (arith, count)
    | inr other ↦ above k c (sym (inserted_other m number (record { 0 = suc n }) k other) ∙ is)
  ]

-- a count of a page of a live cache
pub counted_pages : (m : FinMap nat_cmp LockCount) (es : List (Option CacheEntry)) (number count : ℕ) → HasPages 1 es m
    → IsPageOf 1 es number → HasPages 1 es (with_count m number count)
unfolding with_count
counted_pages m es number zero has of = pages_cleared m es number has
counted_pages m es number (suc n) has of = pages_set m es number (record { 0 = suc n }) has of
