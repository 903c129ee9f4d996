-- How many numbers of a range a map has, and how many pages are locked.
use Rattle.std.proofs.Common.{◌≡◌, ℕ, zero, suc, ◌+◌, ◌-◌, ◌<◌, ◌≤◌, Bool, List, [], ◌∷◌, count_by, sum_by, Option, Some, None, IsSome, is_some, option_map, unwrap_or, refl, ap, ◌∙◌, inr, arith}
use Rattle.std.proofs.lemmas.List.Sums.{count_by-le-length, sum_by-cons, sum_by_push}
use Rattle.std.specs.Ordering.{nat_cmp}
use Rattle.std.specs.FinMap.{FinMap}
use Rattle.std.specs.FinMap as map
use Rattle.stretches.specs.Cells.{cells}
use Rattle.stretches.specs.Stretches.{IsNextFrom}
use Rattle.stretches.specs.declared.says.Says.{Ghosts}
use Rattle.stretches.specs.declared.stretch.Stretch.{Stretch}
use Rattle.stretches.proofs.Cells.{get_cells}
use Rattle.stretches.proofs.Reading.Numbers.{within}
use Rattle.local_cache.specs.declared.cache_list.CacheEntry.{CacheEntry}
use Rattle.local_cache.specs.declared.page_marks.LockCount.{LockCount}
use Rattle.local_cache.specs.Arena.{is_locked}
use Rattle.local_cache.specs.CacheList.{entry_pages, page_sum, row_by, rows_by, values}
use Rattle.local_cache.specs.NodeKeys.{page_number}
use Rattle.local_cache.specs.PageMarks.{locks_at}
use Rattle.local_cache.specs.RowChanges.{row_locked}
use Rattle.local_cache.specs.Singles.{without_range}
use Rattle.local_cache.proofs.CacheList.Values.{length_values, values_more}
use Rattle.local_cache.proofs.ManyNodes.Cleared.{len_range, range_out, range_skipped, range_vacant}
use Rattle.local_cache.proofs.Singles.{len_remove_old, remove_absent}
use Rattle.local_cache.proofs.Tables.Locked.{bit}

-- The first stretch of a range

module _ {V : Type 0} (S : Ghosts V) (list : List (Stretch V)) (m : FinMap nat_cmp V) (next until : ℕ)
    (same : (n : ℕ) → next ≤ n → n < until → map.get m n ≡ map.get (cells S list) n) where
  pub part_said : (r : Stretch V) → IsNextFrom S list next r → r.first ≤ until → until ≤ r.first + r.count
      → until - r.first + map.len (without_range m next (until - next)) ≡ map.len m
  part_said r from less end =
      let skipped = range_skipped m next r.first until from.from less
      (λ q low high. same q low (omega (arith, high, less)) ∙ get_cells S list q ∙ from.none q low high) in
      let counts = len_range m r.first (until - r.first) (λ q low high.
      ap is_some (same q (omega (arith, low, from.from)) (omega (arith, high, less))
      ∙ get_cells S list q ∙ from.said q (within r q low (omega (arith, high, less, end))))) in
      omega (arith, counts, ap map.len skipped)

  pub none_said : ((q : ℕ) → next ≤ q → q < until → map.get (cells S list) q ≡ None) → next ≤ until
      → 0 + map.len (without_range m next (until - next)) ≡ map.len m
  none_said none less =
      let vacant = range_vacant m next (until - next) (λ q low high.
      same q low (omega (arith, high, less)) ∙ none q low (omega (arith, high, less))) in
      omega (arith, ap map.len vacant)

-- Locks

bit_some : (n : ℕ) → 0 < n → bit n ≡ 1
bit_some zero some = let bad : ⊥ = omega (arith, some) in absurd bad
bit_some (suc n) some = refl

module _ (m : FinMap nat_cmp LockCount) (above : (k : ℕ) (c : LockCount) → map.get m k ≡ Some c → 0 < c.0) where
  one_range : (first k : ℕ) → bit (locks_at m (first + k)) + map.len (without_range m first (suc k))
      ≡ map.len (without_range m first k)
  one_range first k = go (map.get m (first + k)) refl
    where
      left : FinMap nat_cmp LockCount
      left = without_range m first k

      go : (o : Option LockCount) → map.get m (first + k) ≡ o
          → bit (locks_at m (first + k)) + map.len (without_range m first (suc k))
          ≡ map.len (without_range m first k)
      go None is =
          let none : map.get (without_range m first k) (first + k) ≡ None = range_out m first k (first + k) (inr (omega arith)) ∙ is in
          let none_locked : bit (locks_at m (first + k)) ≡ 0 =
          ap (λ (o : Option LockCount). bit (unwrap_or (option_map (λ v. v.0) o) 0)) is in
          omega (arith, none_locked, ap map.len (remove_absent (without_range m first k) (first + k) none))
      go (Some c) is =
          let there : IsSome (map.get (without_range m first k) (first + k)) =
          ap is_some (range_out m first k (first + k) (inr (omega arith)) ∙ is) in
          let one : bit (locks_at m (first + k)) ≡ 1 =
          ap (λ (o : Option LockCount). bit (unwrap_or (option_map (λ v. v.0) o) 0)) is ∙ bit_some c.0 (above (first + k) c is) in
          omega (arith, one, len_remove_old (without_range m first k) (first + k) there)

  -- the locked pages of a range are the numbers of the range that the map has
  pub count_range : (first k : ℕ)
      → count_by is_locked (values (locks_at m) first k) + map.len (without_range m first k) ≡ map.len m
  count_range first zero = omega arith
  count_range first (suc k) =
      let more : count_by is_locked (values (locks_at m) first (suc k))
      ≡ count_by is_locked (values (locks_at m) first k) + bit (locks_at m (first + k)) =
      ap (count_by is_locked) (values_more (locks_at m) first k)
      ∙ sum_by_push (λ (n : ℕ). bit n) (values (locks_at m) first k) (locks_at m (first + k)) in
      omega (arith, count_range first k, more, one_range first k)

-- no more pages are locked than there are
pub locked_within : (granted : ℕ → Bool) (locks : ℕ → ℕ) (from : ℕ) (es : List (Option CacheEntry))
    → sum_by row_locked (rows_by granted locks from es) ≤ page_sum es
locked_within granted locks from [] = omega arith
locked_within granted locks from (None ∷ es) =
    omega (
      arith,
      locked_within granted locks (from + 1) es,
      sum_by-cons row_locked None (rows_by granted locks (from + 1) es),
      sum_by-cons entry_pages None es,
    )
locked_within granted locks from (Some e ∷ es) =
    omega (
      arith,
      locked_within granted locks (from + 1) es,
      sum_by-cons row_locked (Some (row_by granted locks from e)) (rows_by granted locks (from + 1) es),
      sum_by-cons entry_pages (Some e) es,
      count_by-le-length is_locked (values locks (page_number from 0) e.pages),
      length_values locks (page_number from 0) e.pages,
    )
