-- What is told of the caches and their pages.
use Rattle.std.proofs.Common.{◌≡◌, ℕ, ◌+◌, ◌<◌, ◌≤◌, ◌^◌, [], List, length, Option, Some, None, IsSome, is_some, option_map, unwrap_or, sum_by, refl, ap, sym, ◌∙◌, inl, inr, arith}
use Rattle.std.proofs.lemmas.Bool.{false≢true}
use Rattle.std.specs.Ordering.{nat_cmp}
use Rattle.std.specs.FinMap.{len-empty}
use Rattle.std.specs.FinMap as map
use Rattle.stretches.specs.Cells.{cells}
use Rattle.stretches.specs.Stretches.{Stretches, number_count, said}
use Rattle.stretches.specs.declared.says.Says.{Ghosts}
use Rattle.stretches.specs.declared.stretch.Stretch.{Stretch}
use Rattle.stretches.proofs.Cells.{get_cells}
use Rattle.local_cache.specs.declared.cache_list.CacheEntry.{CacheEntry}
use Rattle.local_cache.specs.declared.page_marks.Granted.{Granted}
use Rattle.local_cache.specs.declared.page_marks.LockCount.{LockCount}
use Rattle.local_cache.specs.CacheList.{AreListsRight, entry_at, granted_in, locks_in, page_sum, row_by, rows_of}
use Rattle.local_cache.specs.NodeKeys.{page_number}
use Rattle.local_cache.specs.PageMarks.{granted_says, locks_say}
use Rattle.local_cache.specs.Placed.{HasRow}
use Rattle.local_cache.specs.Singles.{IsCounted}
use Rattle.local_cache.specs.RowChanges.{entry_of_row, is_granting, row_at, row_locked, row_locks}
use Rattle.local_cache.proofs.ArenaBy.NewCache.{row_within}
use Rattle.local_cache.proofs.CacheList.PageNumbers.{entry_index, len_pages, nothing_at, page_cases, pages_within}
use Rattle.local_cache.proofs.CacheList.Rows.{entry_is, granting_is, has_entry, has_row, length_rows, locks_are, locks_none, row_is}

-- Lists that say nothing

module _ {V : Type 0} (S : Ghosts V) where
  empty_len : (rs : List (Stretch V)) → rs ≡ [] → map.len (cells S rs) ≡ 0
  unfolding cells
  empty_len rs none = ap (λ (xs : List (Stretch V)). map.len (cells S xs)) none ∙ len-empty nat_cmp V

  empty_get : (rs : List (Stretch V)) → rs ≡ [] → (n : ℕ) → map.get (cells S rs) n ≡ None
  empty_get rs none n = get_cells S rs n ∙ ap (λ (xs : List (Stretch V)). said S xs n) none

  empty_counted : (l : Stretches V) → l.list ≡ [] → IsCounted S l
  empty_counted l none = ap number_count none ∙ sym (empty_len l.list none)

module _ (es : List (Option CacheEntry)) (grants : Stretches Granted) (locks : Stretches LockCount) where
  pub made_is : length (rows_of es grants locks) ≡ length es
  made_is = length_rows (granted_in grants) (locks_in locks) 1 es

  pub told_entry : (cache : ℕ) → option_map entry_of_row (row_at (rows_of es grants locks) cache) ≡ entry_at es cache
  told_entry cache = entry_is (granted_in grants) (locks_in locks) es cache

  -- a cache with a row is live
  pub is_live : (cache : ℕ) → IsSome (row_at (rows_of es grants locks) cache) → IsSome (entry_at es cache)
  is_live cache some =
      go (entry_at es cache)
      (sym (ap is_some (row_is (granted_in grants) (locks_in locks) es cache)) ∙ some)
    where
      go : (o : Option CacheEntry)
          → IsSome (option_map (row_by (granted_in grants) (locks_in locks) cache) o)
          → IsSome o
      go None h = absurd (false≢true h)
      go (Some e) h = refl

  -- the page of a row is a page of a live cache
  pub live_page : (cache page : ℕ) → HasRow (rows_of es grants locks) cache page
      → (e : CacheEntry) × (entry_at es cache ≡ Some e) × (page < e.pages)
  live_page cache page has =
      has_entry (granted_in grants) (locks_in locks) es cache page has

  pub told_granted : (cache page : ℕ) → HasRow (rows_of es grants locks) cache page
      → is_granting (rows_of es grants locks) cache page
      ≡ is_some (map.get (cells granted_says grants.list) (page_number cache page))
  told_granted cache page has =
      let here = live_page cache page has in
      granting_is (granted_in grants) (locks_in locks) es cache page here.0 here.1 here.2

module _ (es : List (Option CacheEntry)) (grants : Stretches Granted) (locks : Stretches LockCount)
    (pages capacity locked : ℕ) (right : AreListsRight es grants locks pages capacity locked) where
  pub few_pages : page_sum es < 2 ^ 32
  few_pages = omega (arith, right.sum, right.fits, right.few)

  -- the lists have places for what they say
  pub grants_fit : map.len (cells granted_says grants.list) ≤ grants.places
  grants_fit =
      omega (arith, len_pages es (cells granted_says grants.list) right.granted.placed, right.sum, right.fits, right.granted.places)

  pub locks_fit : map.len (cells locks_say locks.list) ≤ locks.places
  locks_fit =
      omega (arith, len_pages es (cells locks_say locks.list) right.locking.placed, right.sum, right.fits, right.locking.places)

  -- the number of a page of a live cache fits a list
  pub page_short : (cache page : ℕ) (e : CacheEntry) → entry_at es cache ≡ Some e → page < e.pages
      → page + 1 < 2 ^ 32
  page_short cache page e is below =
      let at = entry_index es cache e is in
      omega (arith, pages_within es at.0 e at.2, below, right.sum, right.fits, right.few)

  pub number_fits : (cache page : ℕ) (e : CacheEntry) → entry_at es cache ≡ Some e → page < e.pages
      → page_number cache page + 1 < 2 ^ 64
  number_fits cache page e is below =
      let at = entry_index es cache e is in
      let short : page + 1 < 2 ^ 32 = page_short cache page e is below in
      let low : cache < 2 ^ 32 = omega (arith, at.1, row_within es at.0 e at.2, right.caches) in
      omega (arith, short, low)

  module _ (cache page : ℕ) (short : page < 2 ^ 32) where
    none_here : ((e : CacheEntry) → entry_at es cache ≡ Some e → page < e.pages → ⊥)
        → locks_in locks (page_number cache page) ≡ 0
    none_here absent =
        ap (λ (o : Option LockCount). unwrap_or (option_map (λ v. v.0) o) 0)
        (nothing_at (cells locks_say locks.list) es right.locking.placed few_pages cache page short absent)

    -- the locks of a page, and of none
    pub told_locks : row_locks (rows_of es grants locks) cache page
        ≡ locks_in locks (page_number cache page)
    told_locks = elim (page_cases es cache page) [
      | inl here ↦
          locks_are (granted_in grants) (locks_in locks) es cache page here.0 here.1 here.2
      | inr absent ↦
          locks_none (granted_in grants) (locks_in locks) es cache page absent
          ∙ sym (none_here absent)
    ]

    -- a page with locks is one of a live cache
    pub locked_page : 0 < locks_in locks (page_number cache page)
        → HasRow (rows_of es grants locks) cache page
    locked_page some = elim (page_cases es cache page) [
      | inl here ↦
          has_row (granted_in grants) (locks_in locks) es cache here.0 page here.1 here.2
      | inr absent ↦ let bad : ⊥ = omega (arith, some, none_here absent) in absurd bad
    ]

  -- what the list of locks says of the number of a page
  module _ (cache page : ℕ) (short : page < 2 ^ 32) (number : ℕ) (at : number ≡ page_number cache page)
      (found : Option LockCount) (said_is : found ≡ said locks_say locks.list number) where
    found_is : found ≡ map.get (cells locks_say locks.list) (page_number cache page)
    found_is = said_is ∙ sym (get_cells locks_say locks.list number) ∙ ap (map.get (cells locks_say locks.list)) at

    pub found_locks : unwrap_or (option_map (λ v. v.0) found) 0 ≡ row_locks (rows_of es grants locks) cache page
    found_locks =
        ap (λ (o : Option LockCount). unwrap_or (option_map (λ v. v.0) o) 0) found_is
        ∙ sym (told_locks cache page short)

    pub found_page : 0 < unwrap_or (option_map (λ v. v.0) found) 0 → HasRow (rows_of es grants locks) cache page
    found_page some =
        locked_page cache page short
        (omega (arith, some, ap (λ (o : Option LockCount). unwrap_or (option_map (λ v. v.0) o) 0) found_is))

-- no caches
pub empty_list : (es : List (Option CacheEntry)) (grants : Stretches Granted) (locks : Stretches LockCount)
    → es ≡ [] → grants.list ≡ [] → locks.list ≡ [] → AreListsRight es grants locks 0 0 0
empty_list es grants locks none no_grants no_locks =
    record {
      granted = record {
        counted = empty_counted granted_says grants no_grants;
        places = omega arith;
        placed = λ k some. absurd (false≢true (sym (ap is_some (empty_get granted_says grants.list no_grants k)) ∙ some));
      };
      locking = record {
        counted = empty_counted locks_say locks no_locks;
        places = omega arith;
        placed = λ k some. absurd (false≢true (sym (ap is_some (empty_get locks_say locks.list no_locks k)) ∙ some));
      };
      above = λ k c is. absurd (false≢true (sym (ap is_some (empty_get locks_say locks.list no_locks k)) ∙ ap is_some is));
      caches = omega (arith, ap (λ (xs : List (Option CacheEntry)). length xs) none);
      sum = sym (ap page_sum none);
      fits = omega arith;
      few = omega arith;
      counted = sym (ap (λ (xs : List (Option CacheEntry)). locked_sum xs) none);
    }
  where
    locked_sum : List (Option CacheEntry) → ℕ
    locked_sum xs = sum_by row_locked (rows_of xs grants locks)
