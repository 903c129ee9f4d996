-- One page of a live cache, whose grant or locks are set.
use Rattle.std.proofs.Common.{◌≡◌, ◌≢◌, ℕ, ◌+◌, ◌-◌, ◌<◌, ◌≤◌, ◌^◌, Bool, true, List, [], ◌∷◌, length, get_or, sum_by, Option, Some, None, is_some, unwrap_or, slice_get, refl, ap, sym, ◌∙◌, arith}
use Rattle.std.specs.Prelude.{option_and_then}
use Rattle.std.proofs.lemmas.List.Sums.{sum_by-cons}
use Rattle.std.proofs.lemmas.Option.{slice_get-get_or}
use Rattle.std.specs.Ordering.{nat_cmp}
use Rattle.std.specs.FinMap.{FinMap}
use Rattle.std.specs.FinMap as map
use Rattle.stretches.specs.Cells.{cells}
use Rattle.stretches.specs.Stretches.{Stretches}
use Rattle.local_cache.specs.declared.cache_list.CacheEntry.{CacheEntry}
use Rattle.local_cache.specs.declared.page_marks.Granted.{Granted}
use Rattle.local_cache.specs.declared.page_marks.LockCount.{LockCount}
use Rattle.local_cache.specs.ArenaBy.{CacheRow}
use Rattle.local_cache.specs.CacheList.{AreListsRight, entry_at, granted_in, locks_in, row_by, rows_by, rows_of, values}
use Rattle.local_cache.specs.NodeKeys.{page_number}
use Rattle.local_cache.specs.PageMarks.{granted_says, locks_at, locks_say, with_count}
use Rattle.local_cache.specs.RowChanges.{row_at, row_granting, row_locked, row_locking, row_locks, rows_changed}
use Rattle.local_cache.specs.Singles.{IsCounted}
use Rattle.local_cache.proofs.ArenaBy.Locked.{locking_counts}
use Rattle.local_cache.proofs.CacheList.Counting.{locked_within}
use Rattle.local_cache.proofs.CacheList.Counts.{count_above, counted_here, counted_other, counted_pages}
use Rattle.local_cache.proofs.CacheList.PageNumbers.{len_pages, page_of, pages_set, pages_within}
use Rattle.local_cache.proofs.CacheList.Reading.{few_pages, page_short}
use Rattle.local_cache.proofs.CacheList.Rows.{row_counts, row_grants, row_there, rows_one}
use Rattle.local_cache.proofs.CacheList.Values.{length_values}
use Rattle.local_cache.proofs.NodeCells.{inserted_here, inserted_other}
use Rattle.local_cache.proofs.Tables.Locked.{bit}

-- how many pages are locked rests on the locks alone
pub locked_alike : (granted granted_now : ℕ → Bool) (locks : ℕ → ℕ) (from : ℕ) (es : List (Option CacheEntry))
    → sum_by row_locked (rows_by granted_now locks from es) ≡ sum_by row_locked (rows_by granted locks from es)
locked_alike granted granted_now locks from [] = refl
locked_alike granted granted_now locks from (None ∷ es) =
    omega (
      arith,
      locked_alike granted granted_now locks (from + 1) es,
      sum_by-cons row_locked None (rows_by granted locks (from + 1) es),
      sum_by-cons row_locked None (rows_by granted_now locks (from + 1) es),
    )
locked_alike granted granted_now locks from (Some e ∷ es) =
    omega (
      arith,
      locked_alike granted granted_now locks (from + 1) es,
      sum_by-cons row_locked (Some (row_by granted locks from e)) (rows_by granted locks (from + 1) es),
      sum_by-cons row_locked (Some (row_by granted_now locks from e)) (rows_by granted_now locks (from + 1) es),
    )

module _ (es : List (Option CacheEntry)) (grants : Stretches Granted) (locks : Stretches LockCount)
    (pages capacity locked : ℕ) (right : AreListsRight es grants locks pages capacity locked)
    (cache page : ℕ) (e : CacheEntry) (is : entry_at es cache ≡ Some e) (below : page < e.pages) where
  -- a page of another cache has another number
  apart : (k : ℕ) (f : CacheEntry) (n : ℕ) → 1 + k ≢ cache → get_or es k None ≡ Some f
      → page_number (1 + k) 0 ≤ n → n < page_number (1 + k) 0 + f.pages → n ≢ page_number cache page
  apart k f n other there low high same =
      let few = page_short es grants locks pages capacity locked right cache page e is below in
      let most = pages_within es k f there in
      let fewer = few_pages es grants locks pages capacity locked right in
      other (let here : 1 + k ≡ cache = omega (arith, same, low, high, most, fewer, few) in here)

  -- Grants

  -- the list of grants has a place for the page's grant
  pub grant_fits : (v : Granted)
      → map.len (map.insert (cells granted_says grants.list) (page_number cache page) v) ≤ grants.places
  grant_fits v =
      let most = len_pages es (map.insert (cells granted_says grants.list) (page_number cache page) v)
      (pages_set (cells granted_says grants.list) es (page_number cache page) v right.granted.placed (page_of es cache page e is below)) in
      omega (arith, most, right.sum, right.fits, right.granted.places)

  module _ (after : Stretches Granted) (v : Granted)
      (set : cells granted_says after.list ≡ map.insert (cells granted_says grants.list) (page_number cache page) v)
      (counted : IsCounted granted_says after) (places : after.places ≡ grants.places) where
    pub right_granted : AreListsRight es after locks pages capacity locked
    right_granted =
        record {
          granted = record {
            counted = counted;
            places = omega (arith, places, right.granted.places);
            placed = λ k some. pages_set (cells granted_says grants.list) es (page_number cache page) v right.granted.placed (page_of es cache page e is below) k
                (sym (ap (λ (m : FinMap nat_cmp Granted). is_some (map.get m k)) set) ∙ some);
          };
          locking = right.locking;
          above = right.above;
          caches = right.caches;
          sum = right.sum;
          fits = right.fits;
          few = right.few;
          counted = right.counted
              ∙ sym (locked_alike (granted_in grants) (granted_in after) (locks_in locks) 1 es);
        }

    granted_here : granted_in after (page_number cache page) ≡ true
    granted_here =
        ap (λ (m : FinMap nat_cmp Granted). is_some (map.get m (page_number cache page))) set
        ∙ ap is_some (inserted_here (cells granted_says grants.list) (page_number cache page) v)

    granted_other : (n : ℕ) → n ≢ page_number cache page
        → granted_in after n ≡ granted_in grants n
    granted_other n other =
        ap (λ (m : FinMap nat_cmp Granted). is_some (map.get m n)) set
        ∙ ap is_some (inserted_other (cells granted_says grants.list) (page_number cache page) v n other)

    pub rows_granted : rows_of es after locks ≡ rows_changed (rows_of es grants locks) cache (row_granting page)
    rows_granted =
        rows_one (granted_in grants) (granted_in after)
        (locks_in locks) (locks_in locks) es cache (row_granting page)
        (λ k f n other there low high. (granted_other n (apart k f n other there low high), refl))
        (λ f. row_grants (granted_in grants) (locks_in locks) cache page f
        (granted_in after) granted_here granted_other)

  -- Locks

  pub lock_fits : (v : LockCount)
      → map.len (map.insert (cells locks_say locks.list) (page_number cache page) v) ≤ locks.places
  lock_fits v =
      let most = len_pages es (map.insert (cells locks_say locks.list) (page_number cache page) v)
      (pages_set (cells locks_say locks.list) es (page_number cache page) v right.locking.placed (page_of es cache page e is below)) in
      omega (arith, most, right.sum, right.fits, right.locking.places)

  abbrev counts : ℕ → FinMap nat_cmp LockCount
  counts count = with_count (cells locks_say locks.list) (page_number cache page) count

  rows_with : (count : ℕ)
      → rows_by (granted_in grants) (locks_at (counts count)) 1 es
      ≡ rows_changed (rows_of es grants locks) cache (row_locking page count)
  rows_with count =
      rows_one (granted_in grants) (granted_in grants)
      (locks_in locks) (locks_at (counts count)) es cache (row_locking page count)
      (λ k f n other there low high. (refl, counted_other (cells locks_say locks.list) (page_number cache page) count n (apart k f n other there low high)))
      (λ f. row_counts (granted_in grants) (locks_in locks) cache page f
      (locks_at (counts count)) count
      (counted_here (cells locks_say locks.list) (page_number cache page) count)
      (counted_other (cells locks_say locks.list) (page_number cache page) count))

  here : row_at (rows_of es grants locks) cache
      ≡ Some (row_by (granted_in grants) (locks_in locks) cache e)
  here = row_there (granted_in grants) (locks_in locks) es cache e is

  -- what one page adds to the count of locked pages
  locked_with : (count : ℕ)
      → sum_by row_locked (rows_by (granted_in grants) (locks_at (counts count)) 1 es)
      + bit (row_locks (rows_of es grants locks) cache page)
      ≡ locked + bit count
  locked_with count =
      let xs = values (locks_in locks) (page_number cache 0) e.pages in
      let less : page < length xs =
      omega (arith, below, length_values (locks_in locks) (page_number cache 0) e.pages) in
      let read : row_locks (rows_of es grants locks) cache page ≡ get_or xs page 0 =
      ap (λ (o : Option CacheRow). unwrap_or (option_and_then (λ r. slice_get r.locks page) o) 0) here
      ∙ ap (λ (o : Option ℕ). unwrap_or o 0) (slice_get-get_or xs page 0 less) in
      omega (
        arith,
        locking_counts map.empty (rows_of es grants locks) cache page count
            (row_by (granted_in grants) (locks_in locks) cache e) here less,
        ap (sum_by row_locked) (rows_with count),
        ap bit read,
        right.counted,
      )

  -- a page that was locked is one of those that are counted
  pub taken_fits : bit (row_locks (rows_of es grants locks) cache page) ≤ locked
  taken_fits = omega (arith, locked_with 0)

  -- no more pages are locked then than there are
  pub added_fits : (count : ℕ)
      → locked - bit (row_locks (rows_of es grants locks) cache page) + bit count < 2 ^ 32
  added_fits count =
      omega (
        arith,
        locked_with count,
        locked_within (granted_in grants) (locks_at (counts count)) 1 es,
        few_pages es grants locks pages capacity locked right,
        taken_fits,
      )

  module _ (after : Stretches LockCount) (count : ℕ)
      (set : cells locks_say after.list ≡ with_count (cells locks_say locks.list) (page_number cache page) count)
      (counted : IsCounted locks_say after) (places : after.places ≡ locks.places) where
    pub rows_locked : rows_of es grants after ≡ rows_changed (rows_of es grants locks) cache (row_locking page count)
    rows_locked =
        ap (λ (m : FinMap nat_cmp LockCount). rows_by (granted_in grants) (locks_at m) 1 es) set
        ∙ rows_with count

    pub right_locked : (now : ℕ)
        → now ≡ locked - bit (row_locks (rows_of es grants locks) cache page) + bit count
        → AreListsRight es grants after pages capacity now
    right_locked now is_now =
        record {
          granted = right.granted;
          locking = record {
            counted = counted;
            places = omega (arith, places, right.locking.places);
            placed = λ k some. counted_pages (cells locks_say locks.list) es (page_number cache page) count right.locking.placed (page_of es cache page e is below) k
                (sym (ap (λ (m : FinMap nat_cmp LockCount). is_some (map.get m k)) set) ∙ some);
          };
          above = λ k c at. count_above (cells locks_say locks.list) (page_number cache page) count right.above k c
              (sym (ap (λ (m : FinMap nat_cmp LockCount). map.get m k) set) ∙ at);
          caches = right.caches;
          sum = right.sum;
          fits = right.fits;
          few = right.few;
          counted = omega (
            arith,
            is_now,
            locked_with count,
            taken_fits,
            ap (λ (m : FinMap nat_cmp LockCount). sum_by row_locked (rows_by (granted_in grants) (locks_at m) 1 es)) set,
          );
        }
