-- The rows of caches, read and changed.
use Rattle.std.proofs.Common.{◌≡◌, ◌≢◌, ℕ, zero, suc, ◌+◌, ◌<◌, ◌≤◌, Bool, true, false, List, [], ◌∷◌, ◌++◌, length, length-set, get_or, set, Option, Some, None, option_map, slice_get, unwrap_or, refl, ap, sym, ◌∙◌, inl, inr, arith}
use Rattle.std.specs.Prelude.{option_and_then}
use Rattle.std.proofs.lemmas.Bool.{cases_eq, cases_lt}
use Rattle.std.proofs.lemmas.List.{get_or_default, same_lists}
use Rattle.std.proofs.lemmas.Option.{none-some, same_Some}
use Rattle.vm_ids.specs.declared.numbers.SegId.{SegId}
use Rattle.local_cache.specs.declared.cache_list.CacheEntry.{CacheEntry}
use Rattle.local_cache.specs.ArenaBy.{CacheRow}
use Rattle.local_cache.specs.CacheList.{entry_at, row_by, rows_by}
use Rattle.local_cache.specs.NodeKeys.{page_number}
use Rattle.local_cache.specs.Placed.{HasRow}
use Rattle.local_cache.specs.RowChanges.{entry_of_row, is_granting, new_row, row_at, row_granting, row_locking, row_locks, rows_changed, rows_without}
use Rattle.local_cache.proofs.CacheList.Values.{value_at, value_past, values_all, values_same, values_set}
use Rattle.local_cache.proofs.Tables.Listing.{read_other, read_set}

-- Rows that are read

module _ (granted : ℕ → Bool) (locks : ℕ → ℕ) where
  pub length_rows : (from : ℕ) (es : List (Option CacheEntry))
      → length (rows_by granted locks from es) ≡ length es
  length_rows from [] = refl
  length_rows from (e ∷ es) = let rest = length_rows (from + 1) es in omega (arith, rest)

  pub row_get : (from : ℕ) (es : List (Option CacheEntry)) (k : ℕ)
      → get_or (rows_by granted locks from es) k None
      ≡ option_map (row_by granted locks (from + k)) (get_or es k None)
  row_get from [] k = refl
  row_get from (e ∷ es) zero =
      let at : from ≡ from + 0 = omega arith in
      ap (λ (c : ℕ). option_map (row_by granted locks c) e) at
  row_get from (e ∷ es) (suc k) =
      let at : from + 1 + k ≡ from + suc k = omega arith in
      row_get (from + 1) es k
      ∙ ap (λ (c : ℕ). option_map (row_by granted locks c) (get_or es k None)) at

  pub row_is : (es : List (Option CacheEntry)) (cache : ℕ)
      → row_at (rows_by granted locks 1 es) cache
      ≡ option_map (row_by granted locks cache) (entry_at es cache)
  row_is es zero = refl
  row_is es (suc k) =
      let at : 1 + k ≡ suc k = omega arith in
      row_get 1 es k ∙ ap (λ (c : ℕ). option_map (row_by granted locks c) (get_or es k None)) at

  pub rows_append : (from : ℕ) (es : List (Option CacheEntry)) (e : Option CacheEntry)
      → rows_by granted locks from (es ++ e ∷ [])
      ≡ rows_by granted locks from es ++ option_map (row_by granted locks (from + length es)) e ∷ []
  rows_append from [] e =
      let at : from ≡ from + 0 = omega arith in
      λ i. option_map (row_by granted locks (at i)) e ∷ []
  rows_append from (o ∷ es) e =
      let at : from + 1 + length es ≡ from + length (o ∷ es) = omega arith in
      let rest = rows_append (from + 1) es e in
      (λ i. option_map (row_by granted locks from) o ∷ rest i)
      ∙ (λ i. option_map (row_by granted locks from) o
      ∷ rows_by granted locks (from + 1) es ++ option_map (row_by granted locks (at i)) e ∷ [])

  module _ (es : List (Option CacheEntry)) (cache : ℕ) where
    -- the entry of a row
    pub entry_is : option_map entry_of_row (row_at (rows_by granted locks 1 es) cache) ≡ entry_at es cache
    entry_is = ap (option_map entry_of_row) (row_is es cache) ∙ go (entry_at es cache)
      where
        go : (o : Option CacheEntry) → option_map entry_of_row (option_map (row_by granted locks cache) o) ≡ o
        go None = refl
        go (Some e) = refl

    -- a live cache has its row
    pub row_there : (e : CacheEntry) → entry_at es cache ≡ Some e
        → row_at (rows_by granted locks 1 es) cache ≡ Some (row_by granted locks cache e)
    row_there e is = row_is es cache ∙ ap (option_map (row_by granted locks cache)) is

    pub has_row : (e : CacheEntry) (page : ℕ) → entry_at es cache ≡ Some e → page < e.pages
        → HasRow (rows_by granted locks 1 es) cache page
    has_row e page is below =
        record { row = row_by granted locks cache e; is = row_there e is; below = below }

    -- and a row is that of a live cache
    pub has_entry : (page : ℕ) → HasRow (rows_by granted locks 1 es) cache page
        → (e : CacheEntry) × (entry_at es cache ≡ Some e) × (page < e.pages)
    has_entry page has = go (entry_at es cache) refl
      where
        go : (o : Option CacheEntry) → entry_at es cache ≡ o
            → (e : CacheEntry) × (entry_at es cache ≡ Some e) × (page < e.pages)
        go None is = absurd (none-some has.row (sym (row_is es cache ∙ ap (option_map (row_by granted locks cache)) is) ∙ has.is))
        go (Some e) is =
            let same : row_by granted locks cache e ≡ has.row = same_Some _ _ (sym (row_there e is) ∙ has.is) in
            let pages : e.pages ≡ has.row.pages = ap (λ (r : CacheRow). r.pages) same in
            (e, is, omega (arith, pages, has.below))

    -- what is granted, and how many locks there are
    module _ (page : ℕ) where
      first_number : page_number cache 0 + page ≡ page_number cache page
      first_number = omega arith

      pub granting_is : (e : CacheEntry) → entry_at es cache ≡ Some e → page < e.pages
          → is_granting (rows_by granted locks 1 es) cache page ≡ granted (page_number cache page)
      granting_is e is below =
          ap (λ (o : Option CacheRow). unwrap_or (option_and_then (λ r. slice_get r.grants page) o) false) (row_there e is)
          ∙ ap (λ (o : Option Bool). unwrap_or o false) (value_at granted (page_number cache 0) e.pages page below)
          ∙ ap granted first_number

      pub locks_are : (e : CacheEntry) → entry_at es cache ≡ Some e → page < e.pages
          → row_locks (rows_by granted locks 1 es) cache page ≡ locks (page_number cache page)
      locks_are e is below =
          ap (λ (o : Option CacheRow). unwrap_or (option_and_then (λ r. slice_get r.locks page) o) 0) (row_there e is)
          ∙ ap (λ (o : Option ℕ). unwrap_or o 0) (value_at locks (page_number cache 0) e.pages page below)
          ∙ ap locks first_number

      -- no locks where there is no such page
      pub locks_none : ((e : CacheEntry) → entry_at es cache ≡ Some e → page < e.pages → ⊥)
          → row_locks (rows_by granted locks 1 es) cache page ≡ 0
      locks_none absent =
          ap (λ (o : Option CacheRow). unwrap_or (option_and_then (λ r. slice_get r.locks page) o) 0) (row_is es cache)
          ∙ go (entry_at es cache) refl
        where
          go : (o : Option CacheEntry) → entry_at es cache ≡ o
              → unwrap_or (option_and_then (λ r. slice_get r.locks page) (option_map (row_by granted locks cache) o)) 0 ≡ 0
          go None is = refl
          go (Some e) is = elim (cases_lt page e.pages) [
            | inl below ↦ absurd (absent e is below)
            | inr above ↦ ap (λ (o : Option ℕ). unwrap_or o 0) (value_past locks (page_number cache 0) e.pages page above)
          ]

-- a new cache has neither grants nor locks
pub new_row_is : (granted : ℕ → Bool) (locks : ℕ → ℕ) (cache : ℕ) (segment : Option SegId) (pages : ℕ)
    → ((n : ℕ) → page_number cache 0 ≤ n → n < page_number cache 0 + pages → granted n ≡ false)
    → ((n : ℕ) → page_number cache 0 ≤ n → n < page_number cache 0 + pages → locks n ≡ 0)
    → row_by granted locks cache (record { segment = segment; pages = pages }) ≡ new_row segment pages
new_row_is granted locks cache segment pages no_grants no_locks =
    let grants = values_all granted false (page_number cache 0) pages no_grants in
    let counts = values_all locks 0 (page_number cache 0) pages no_locks in
    λ i. record { segment = segment; pages = pages; grants = grants i; locks = counts i }

-- One row that changes

-- rows that are the same ones, one by one
same_rows : (xs ys : List (Option CacheRow)) → length xs ≡ length ys
    → ((k : ℕ) → get_or xs k None ≡ get_or ys k None) → xs ≡ ys
same_rows xs ys long same = same_lists xs ys long (λ k d less.
    get_or_default xs k d None less ∙ same k ∙ get_or_default ys k None d (omega (arith, less, long)))

module _ (granted granted_now : ℕ → Bool) (locks locks_now : ℕ → ℕ) (es : List (Option CacheEntry)) (cache : ℕ) where
  abbrev was : List (Option CacheRow)
  was = rows_by granted locks 1 es

  -- what is said of the pages of another cache is what was said
  abbrev pub OthersStay : Type 0
  OthersStay = (k : ℕ) (e : CacheEntry) (n : ℕ) → 1 + k ≢ cache → get_or es k None ≡ Some e
      → page_number (1 + k) 0 ≤ n → n < page_number (1 + k) 0 + e.pages
      → (granted_now n ≡ granted n) × (locks_now n ≡ locks n)

  other_row : OthersStay → (k : ℕ) → 1 + k ≢ cache
      → option_map (row_by granted_now locks_now (1 + k)) (get_or es k None)
      ≡ option_map (row_by granted locks (1 + k)) (get_or es k None)
  other_row stay k apart = go (get_or es k None) refl
    where
      go : (o : Option CacheEntry) → get_or es k None ≡ o
          → option_map (row_by granted_now locks_now (1 + k)) o ≡ option_map (row_by granted locks (1 + k)) o
      go None is = refl
      go (Some e) is =
          let grants = values_same granted granted_now (page_number (1 + k) 0) e.pages (λ n low high. (stay k e n apart is low high).0) in
          let counts = values_same locks locks_now (page_number (1 + k) 0) e.pages (λ n low high. (stay k e n apart is low high).1) in
          λ i. Some (record { segment = e.segment; pages = e.pages; grants = grants i; locks = counts i })

  pub rows_one : (change : CacheRow → CacheRow) → OthersStay
      → ((e : CacheEntry) → row_by granted_now locks_now cache e ≡ change (row_by granted locks cache e))
      → rows_by granted_now locks_now 1 es ≡ rows_changed (rows_by granted locks 1 es) cache change
  rows_one change stay here = go cache refl
    where
      now : List (Option CacheRow)
      now = rows_by granted_now locks_now 1 es

      here_too : (k : ℕ) → cache ≡ suc k → (o : Option CacheEntry)
          → option_map (row_by granted_now locks_now (1 + k)) o ≡ option_map change (option_map (row_by granted locks (1 + k)) o)
      here_too k is None = refl
      here_too k is (Some e) =
          let at : 1 + k ≡ cache = omega (arith, is) in
          ap (λ (c : ℕ). Some (row_by granted_now locks_now c e)) at ∙ ap Some (here e)
          ∙ ap (λ (c : ℕ). Some (change (row_by granted locks c e))) (sym at)

      go : (c : ℕ) → cache ≡ c → rows_by granted_now locks_now 1 es ≡ rows_changed (rows_by granted locks 1 es) c change
      go zero is = same_rows _ _ (length_rows granted_now locks_now 1 es ∙ sym (length_rows granted locks 1 es)) (λ j.
          row_get granted_now locks_now 1 es j
          ∙ other_row stay j (λ e. let bad : ⊥ = omega (arith, e, is) in bad)
          ∙ sym (row_get granted locks 1 es j))
      go (suc k) is =
          let value = option_map change (get_or (rows_by granted locks 1 es) k None) in
          same_rows _ _ (length_rows granted_now locks_now 1 es ∙ sym (length-set (rows_by granted locks 1 es) k value ∙ length_rows granted locks 1 es)) (λ j. elim (cases_eq j k) [
            | inl same ↦
                ap (λ (n : ℕ). get_or (rows_by granted_now locks_now 1 es) n None) same
                ∙ row_get granted_now locks_now 1 es k
                ∙ here_too k is (get_or es k None)
                ∙ ap (option_map change) (sym (row_get granted locks 1 es k))
                ∙ sym (read_set (rows_by granted locks 1 es) k change)
                ∙ ap (λ (n : ℕ). get_or (set (rows_by granted locks 1 es) k value) n None) (sym same)
            | inr apart ↦
                row_get granted_now locks_now 1 es j
                ∙ other_row stay j (λ e. apart (let same : j ≡ k = omega (arith, e, is) in same))
                ∙ sym (row_get granted locks 1 es j)
                ∙ sym (read_other (rows_by granted locks 1 es) k j value apart)
          ])

none_set : {X : Type 0} (xs : List (Option X)) (k : ℕ) → get_or (set xs k None) k None ≡ None
none_set [] k = refl
none_set (x ∷ xs) zero = refl
none_set (x ∷ xs) (suc k) = none_set xs k

-- one row that goes
pub rows_left : (granted granted_now : ℕ → Bool) (locks locks_now : ℕ → ℕ) (es : List (Option CacheEntry)) (k : ℕ)
    → OthersStay granted granted_now locks locks_now es (suc k)
    → rows_by granted_now locks_now 1 (set es k None) ≡ rows_without (rows_by granted locks 1 es) (suc k)
rows_left granted granted_now locks locks_now es k stay =
    same_rows _ _
    (length_rows granted_now locks_now 1 (set es k None) ∙ length-set es k None
    ∙ sym (length-set (rows_by granted locks 1 es) k None ∙ length_rows granted locks 1 es))
    (λ j. row_get granted_now locks_now 1 (set es k None) j ∙ elim (cases_eq j k) [
      | inl same ↦
          ap (λ (n : ℕ). option_map (row_by granted_now locks_now (1 + n)) (get_or (set es k None) n None)) same
          ∙ ap (option_map (row_by granted_now locks_now (1 + k))) (none_set es k)
          ∙ sym (none_set (rows_by granted locks 1 es) k)
          ∙ ap (λ (n : ℕ). get_or (set (rows_by granted locks 1 es) k None) n None) (sym same)
      | inr apart ↦
          ap (option_map (row_by granted_now locks_now (1 + j))) (read_other es k j None apart)
          ∙ other_row granted granted_now locks locks_now es (suc k) stay j (λ e. apart (let same : j ≡ k = omega (arith, e) in same))
          ∙ sym (row_get granted locks 1 es j)
          ∙ sym (read_other (rows_by granted locks 1 es) k j None apart)
    ])

-- What one call does to a row

module _ (granted : ℕ → Bool) (locks : ℕ → ℕ) (cache page : ℕ) (e : CacheEntry) where
  at_page : page_number cache page ≡ page_number cache 0 + page
  at_page = omega arith

  pub row_grants : (granted_now : ℕ → Bool) → granted_now (page_number cache page) ≡ true
      → ((n : ℕ) → n ≢ page_number cache page → granted_now n ≡ granted n)
      → row_by granted_now locks cache e ≡ row_granting page (row_by granted locks cache e)
  row_grants granted_now here others =
      let grants = values_set granted granted_now true (page_number cache 0) e.pages page
      (ap granted_now (sym at_page) ∙ here)
      (λ n apart. others n (λ same. apart (same ∙ at_page))) in
      λ i. record (row_by granted locks cache e) { grants = grants i }

  pub row_counts : (locks_now : ℕ → ℕ) (count : ℕ) → locks_now (page_number cache page) ≡ count
      → ((n : ℕ) → n ≢ page_number cache page → locks_now n ≡ locks n)
      → row_by granted locks_now cache e ≡ row_locking page count (row_by granted locks cache e)
  row_counts locks_now count here others =
      let counts = values_set locks locks_now count (page_number cache 0) e.pages page
      (ap locks_now (sym at_page) ∙ here)
      (λ n apart. others n (λ same. apart (same ∙ at_page))) in
      λ i. record (row_by granted locks cache e) { locks = counts i }
