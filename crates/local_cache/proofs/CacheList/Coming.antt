-- A cache comes, and a cache goes.
use Rattle.std.proofs.Common.{◌≡◌, ◌≢◌, ◌⊎◌, ℕ, suc, ◌+◌, ◌-◌, ◌<◌, ◌≤◌, ◌^◌, List, [], ◌∷◌, ◌++◌, length, length-set, get_or, set, sum_by, Option, Some, None, is_some, option_map, unwrap_or, ap, sym, ◌∙◌, inl, inr, arith}
use Rattle.std.proofs.lemmas.Bool.{cases_lt, false≢true}
use Rattle.std.proofs.lemmas.List.{length_push}
use Rattle.std.proofs.lemmas.List.Sums.{sum_by-set, sum_by_push}
use Rattle.std.specs.Ordering.{nat_cmp}
use Rattle.std.specs.FinMap.{FinMap}
use Rattle.std.specs.FinMap as map
use Rattle.stretches.specs.Cells.{cells}
use Rattle.stretches.specs.Stretches.{Stretches}
use Rattle.vm_ids.specs.declared.numbers.SegId.{SegId}
use Rattle.local_cache.specs.declared.cache_list.CacheEntry.{CacheEntry}
use Rattle.local_cache.specs.declared.page_marks.Granted.{Granted}
use Rattle.local_cache.specs.declared.page_marks.LockCount.{LockCount}
use Rattle.local_cache.specs.ArenaBy.{CacheRow}
use Rattle.local_cache.specs.CacheList.{AreListsRight, entry_pages, granted_in, locks_in, row_by, rows_of}
use Rattle.local_cache.specs.NodeKeys.{page_number}
use Rattle.local_cache.specs.PageMarks.{granted_says, locks_at, locks_say}
use Rattle.local_cache.specs.RowChanges.{new_row, row_at, row_locked, row_pages, rows_without}
use Rattle.local_cache.specs.Singles.{IsCounted, without_range}
use Rattle.local_cache.proofs.ArenaBy.Locked.{made_counts, removed_counts}
use Rattle.local_cache.proofs.ArenaBy.NewCache.{row_within}
use Rattle.local_cache.proofs.CacheList.Counting.{count_range}
use Rattle.local_cache.proofs.CacheList.PageNumbers.{HasPages, nothing_at, pages_left, pages_more, pages_within}
use Rattle.local_cache.proofs.CacheList.Reading.{few_pages}
use Rattle.local_cache.proofs.CacheList.Rows.{new_row_is, row_there, rows_append, rows_left}
use Rattle.local_cache.proofs.ManyNodes.Cleared.{range_cases, range_in, range_out}

-- A cache comes

module _ (es : List (Option CacheEntry)) (grants : Stretches Granted) (locks : Stretches LockCount)
    (pages capacity locked : ℕ) (right : AreListsRight es grants locks pages capacity locked)
    (segment : Option SegId) (more : ℕ) (fits : pages + more ≤ capacity) where
  abbrev new : CacheEntry
  new = record { segment = segment; pages = more }

  -- nothing is said of its pages
  none_yet : {V : Type 0} (m : FinMap nat_cmp V) → HasPages 1 es m
      → (n : ℕ) → page_number (suc (length es)) 0 ≤ n → n < page_number (suc (length es)) 0 + more
      → map.get m n ≡ None
  none_yet m has n low high =
      let page : ℕ = n - page_number (suc (length es)) 0 in
      let at : page_number (suc (length es)) (n - page_number (suc (length es)) 0) ≡ n = omega (arith, low) in
      let short : n - page_number (suc (length es)) 0 < 2 ^ 32 = omega (arith, low, high, fits, right.few) in
      ap (map.get m) (sym at)
      ∙ nothing_at m es has (few_pages es grants locks pages capacity locked right) (suc (length es)) (n - page_number (suc (length es)) 0) short
      (λ e is below. let bad : ⊥ = omega (arith, row_within es (length es) e is) in bad)

  new_is : row_by (granted_in grants) (locks_in locks) (suc (length es)) new
      ≡ new_row segment more
  new_is =
      new_row_is (granted_in grants) (locks_in locks) (suc (length es)) segment more
      (λ n low high. ap is_some (none_yet (cells granted_says grants.list) right.granted.placed n low high))
      (λ n low high. ap (λ (o : Option LockCount). unwrap_or (option_map (λ v. v.0) o) 0) (none_yet (cells locks_say locks.list) right.locking.placed n low high))

  pub rows_pushed : rows_of (es ++ Some (record { segment = segment; pages = more }) ∷ []) grants locks
      ≡ rows_of es grants locks ++ Some (new_row segment more) ∷ []
  rows_pushed =
      let at : 1 + length es ≡ suc (length es) = omega arith in
      rows_append (granted_in grants) (locks_in locks) 1 es (Some (record { segment = segment; pages = more }))
      ∙ ap (λ (c : ℕ). rows_of es grants locks ++ Some (row_by (granted_in grants) (locks_in locks) c (record { segment = segment; pages = more })) ∷ []) at
      ∙ ap (λ (r : CacheRow). rows_of es grants locks ++ Some r ∷ []) new_is

  pub right_pushed : length es + 1 < 2 ^ 32
      → AreListsRight (es ++ Some (record { segment = segment; pages = more }) ∷ []) grants locks (pages + more) capacity locked
  right_pushed room =
      record {
        granted = record {
          counted = right.granted.counted;
          places = right.granted.places;
          placed = pages_more (cells granted_says grants.list) es (Some (record { segment = segment; pages = more })) right.granted.placed;
        };
        locking = record {
          counted = right.locking.counted;
          places = right.locking.places;
          placed = pages_more (cells locks_say locks.list) es (Some (record { segment = segment; pages = more })) right.locking.placed;
        };
        above = right.above;
        caches = omega (arith, room, length_push es (Some (record { segment = segment; pages = more })));
        sum = omega (arith, right.sum, sum_by_push entry_pages es (Some (record { segment = segment; pages = more })));
        fits = fits;
        few = right.few;
        counted = right.counted ∙ sym (ap (sum_by row_locked) rows_pushed ∙ made_counts (rows_of es grants locks) segment more);
      }

-- what is left in the lists when a cache goes
pub record Goes (es : List (Option CacheEntry)) (old : Stretches Granted) (before : Stretches LockCount) (k : ℕ)
    (e : CacheEntry) (gone : ℕ) (new : Stretches Granted) (after : Stretches LockCount) : Type 0 where
  pub counts : gone + map.len (without_range (cells locks_say before.list) (page_number (suc k) 0) e.pages)
      ≡ map.len (cells locks_say before.list)
  pub grants : cells granted_says new.list ≡ without_range (cells granted_says old.list) (page_number (suc k) 0) e.pages
  pub locks : cells locks_say after.list ≡ without_range (cells locks_say before.list) (page_number (suc k) 0) e.pages

-- A cache goes

module _ (es : List (Option CacheEntry)) (grants : Stretches Granted) (locks : Stretches LockCount)
    (pages capacity locked : ℕ) (right : AreListsRight es grants locks pages capacity locked)
    (k : ℕ) (e : CacheEntry) (is : get_or es k None ≡ Some e) where
  here : row_at (rows_of es grants locks) (suc k)
      ≡ Some (row_by (granted_in grants) (locks_in locks) (suc k) e)
  here = row_there (granted_in grants) (locks_in locks) es (suc k) e is

  pub gone_pages : row_pages (row_at (rows_of es grants locks) (suc k)) ≡ e.pages
  gone_pages = ap row_pages here

  pub enough_pages : e.pages ≤ pages
  enough_pages = omega (arith, right.sum, pages_within es k e is)

  -- the pages of another cache are beside its pages
  beside : (j : ℕ) (f : CacheEntry) (n : ℕ) → 1 + j ≢ suc k → get_or es j None ≡ Some f
      → page_number (1 + j) 0 ≤ n → n < page_number (1 + j) 0 + f.pages
      → (n < page_number (suc k) 0) ⊎ (page_number (suc k) 0 + e.pages ≤ n)
  beside j f n other there low high =
      let most = pages_within es j f there in
      let fewer = few_pages es grants locks pages capacity locked right in
      elim (cases_lt j k) [
        | inl lower ↦ inl (omega (arith, lower, high, most, fewer))
        | inr above ↦ elim (cases_lt k j) [
          | inl higher ↦ inr (omega (arith, higher, low, enough_pages, right.fits, right.few))
          | inr under ↦ absurd (other (let same : 1 + j ≡ suc k = omega (arith, above, under) in same))
        ]
      ]

  module _ (gone : ℕ)
      (counts : gone + map.len (without_range (cells locks_say locks.list) (page_number (suc k) 0) e.pages)
      ≡ map.len (cells locks_say locks.list)) where
    -- so many of its pages are locked
    gone_locked : sum_by row_locked (rows_without (rows_of es grants locks) (suc k)) + gone ≡ locked
    gone_locked =
        omega (
          arith,
          counts,
          count_range (cells locks_say locks.list) right.above (page_number (suc k) 0) e.pages,
          removed_counts (rows_of es grants locks) (suc k)
              (row_by (granted_in grants) (locks_in locks) (suc k) e) here,
          right.counted,
        )

    pub enough_locked : gone ≤ locked
    enough_locked = omega (arith, gone_locked)

    module _ (grants_now : Stretches Granted) (locks_now : Stretches LockCount)
        (grants_left : cells granted_says grants_now.list ≡ without_range (cells granted_says grants.list) (page_number (suc k) 0) e.pages)
        (locks_left : cells locks_say locks_now.list ≡ without_range (cells locks_say locks.list) (page_number (suc k) 0) e.pages) where
      pub rows_gone : rows_of (set es k None) grants_now locks_now ≡ rows_without (rows_of es grants locks) (suc k)
      rows_gone =
          rows_left (granted_in grants) (granted_in grants_now)
          (locks_in locks) (locks_in locks_now) es k
          (λ j f n other there low high.
          let out = beside j f n other there low high in (
            ap (λ (m : FinMap nat_cmp Granted). is_some (map.get m n)) grants_left
                ∙ ap is_some (range_out (cells granted_says grants.list) (page_number (suc k) 0) e.pages n out),
            ap (λ (m : FinMap nat_cmp LockCount). locks_at m n) locks_left
                ∙ ap (λ (o : Option LockCount). unwrap_or (option_map (λ v. v.0) o) 0) (range_out (cells locks_say locks.list) (page_number (suc k) 0) e.pages n out),
          ))

      -- no count of 0 comes in
      above_left : (n : ℕ) (c : LockCount) → map.get (cells locks_say locks_now.list) n ≡ Some c → 0 < c.0
      above_left n c at =
          let left : map.get (without_range (cells locks_say locks.list) (page_number (suc k) 0) e.pages) n ≡ Some c =
          sym (ap (λ (m : FinMap nat_cmp LockCount). map.get m n) locks_left) ∙ at in
          elim (range_cases (page_number (suc k) 0) e.pages n) [
            | inl inside ↦
                absurd (false≢true (sym (ap is_some (range_in (cells locks_say locks.list) (page_number (suc k) 0) e.pages n inside.0 inside.1)) ∙ ap is_some left))
            | inr out ↦ right.above n c (sym (range_out (cells locks_say locks.list) (page_number (suc k) 0) e.pages n out) ∙ left)
          ]

      pub right_gone : IsCounted granted_says grants_now → grants_now.places ≡ grants.places
          → IsCounted locks_say locks_now → locks_now.places ≡ locks.places
          → AreListsRight (set es k None) grants_now locks_now (pages - e.pages) capacity (locked - gone)
      right_gone grants_counted grants_places locks_counted locks_places =
          record {
            granted = record {
              counted = grants_counted;
              places = omega (arith, grants_places, right.granted.places);
              placed = λ n some. pages_left (cells granted_says grants.list) es k e is right.granted.placed n
                  (sym (ap (λ (m : FinMap nat_cmp Granted). is_some (map.get m n)) grants_left) ∙ some);
            };
            locking = record {
              counted = locks_counted;
              places = omega (arith, locks_places, right.locking.places);
              placed = λ n some. pages_left (cells locks_say locks.list) es k e is right.locking.placed n
                  (sym (ap (λ (m : FinMap nat_cmp LockCount). is_some (map.get m n)) locks_left) ∙ some);
            };
            above = above_left;
            caches = omega (arith, length-set es k None, right.caches);
            sum = omega (
              arith,
              right.sum,
              sum_by-set entry_pages es k None None (row_within es k e is),
              ap entry_pages is,
            );
            fits = omega (arith, right.fits);
            few = right.few;
            counted = omega (arith, gone_locked, ap (sum_by row_locked) rows_gone);
          }
