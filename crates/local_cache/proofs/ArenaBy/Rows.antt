-- What the arena tells of the rows of caches, and each call that changes a row.
use Rattle.std.proofs.Common.{◌≡◌, ℕ, zero, suc, ◌+◌, ◌<◌, ◌^◌, false, List, [], ◌∷◌, length, get_or, set, sum_by, Option, Some, None, IsSome, is_some, option_map, slice_get, unwrap_or, refl, ap, sym, ◌∙◌, arith, true, length-set, Bool}
use Rattle.std.specs.Prelude.{option_and_then}
use Rattle.std.proofs.lemmas.Bool.{false≢true}
use Rattle.std.proofs.lemmas.List.{get_or-set_same}
use Rattle.std.proofs.lemmas.List.Sums.{sum_by-cons}
use Rattle.std.proofs.lemmas.Option.{none-some, same_Some, slice_get-get_or, slice_get_within}
use Rattle.std.specs.FinMap as ids
use Rattle.local_cache.specs.Pages.{Pages}
use Rattle.vm_ids.specs.declared.numbers.CacheId.{CacheId}
use Rattle.local_cache.specs.declared.page_entry.PageEntry.{PageEntry}
use Rattle.local_cache.specs.Arena.{Table, changed_at, entry_at, is_granted, locked_count, locked_pages, locks_of, node_at, page_count, table_at, table_of, tables_without, with_grant, with_locks, without_cache}
use Rattle.local_cache.specs.ArenaBy.{CacheRow, CacheRows, arena_by, entries_by, entry_under, table_by, tables_by}
use Rattle.local_cache.specs.Placed.{AreShort, HasRow, IsFull}
use Rattle.local_cache.specs.RowChanges.{row_at, row_granting, row_locked, row_locking, row_pages, rows_changed, rows_without, with_changed, without_row}
use Rattle.local_cache.specs.NodeKeys.{page_number}
use Rattle.local_cache.specs.PageNodes.{PageNodes}
use Rattle.local_cache.specs.PageNodes as nodes
use Rattle.local_cache.proofs.NewCache.FoundPages.{some_of}
use Rattle.local_cache.proofs.Tables.Listing.{read_set}

-- One table, and one entry

module _ (m : Pages) where
  pub length_entries : (cache from k : ℕ) → length (entries_by m cache from k) ≡ k
  length_entries cache from zero = refl
  length_entries cache from (suc k) = let rest = length_entries cache (from + 1) k in omega (arith, rest)

  get_entry : (cache from k page : ℕ) → page < k
      → slice_get (entries_by m cache from k) page ≡ Some (entry_under m (page_number cache (from + page)))
  get_entry cache from zero page below = let bad : ⊥ = omega (arith, below) in absurd bad
  get_entry cache from (suc k) zero below =
      let at : from ≡ from + 0 = omega arith in
      ap (λ (p : ℕ). Some (entry_under m (page_number cache p))) at
  get_entry cache from (suc k) (suc page) below =
      let at : from + 1 + page ≡ from + suc page = omega arith in
      get_entry cache (from + 1) k page (omega (arith, below))
      ∙ ap (λ (p : ℕ). Some (entry_under m (page_number cache p))) at

  table_get : (from : ℕ) (rows : List (Option CacheRow)) (k : ℕ)
      → get_or (tables_by m from rows) k None ≡ option_map (table_by m (from + k)) (get_or rows k None)
  table_get from [] k = refl
  table_get from (r ∷ rows) zero =
      let at : from ≡ from + 0 = omega arith in
      ap (λ (c : ℕ). option_map (table_by m c) r) at
  table_get from (r ∷ rows) (suc k) =
      let at : from + 1 + k ≡ from + suc k = omega arith in
      table_get (from + 1) rows k ∙ ap (λ (c : ℕ). option_map (table_by m c) (get_or rows k None)) at

  pub table_is : (rows : List (Option CacheRow)) (cache : ℕ)
      → table_at (tables_by m 1 rows) cache ≡ option_map (table_by m cache) (row_at rows cache)
  table_is rows zero = refl
  table_is rows (suc k) =
      let at : 1 + k ≡ suc k = omega arith in
      table_get 1 rows k ∙ ap (λ (c : ℕ). option_map (table_by m c) (get_or rows k None)) at

-- What is told

module _ (m : PageNodes) (c : CacheRows) (cache : ℕ) where
  -- how many pages a cache has
  pub pages_by : option_map (λ t. length t.pages) (table_of (arena_by m c) cache)
      ≡ option_map (λ r. r.pages) (row_at c.rows cache)
  pages_by = ap (option_map (λ t. length t.pages)) (table_is m.pages c.rows cache) ∙ go (row_at c.rows cache)
    where
      go : (o : Option CacheRow) → option_map (λ t. length t.pages) (option_map (table_by m.pages cache) o) ≡ option_map (λ r. r.pages) o
      go None = refl
      go (Some r) = ap Some (length_entries m.pages cache 0 r.pages)

  -- the segment that names it
  pub segment_by : option_and_then (λ t. t.segment) (table_of (arena_by m c) cache)
      ≡ option_and_then (λ r. r.segment) (row_at c.rows cache)
  segment_by = ap (option_and_then (λ t. t.segment)) (table_is m.pages c.rows cache) ∙ go (row_at c.rows cache)
    where
      go : (o : Option CacheRow) → option_and_then (λ t. t.segment) (option_map (table_by m.pages cache) o) ≡ option_and_then (λ r. r.segment) o
      go None = refl
      go (Some r) = refl

  module _ (page : ℕ) where
    -- whether a page is granted, and how many locks it has
    pub granted_by : is_granted (arena_by m c) cache page
        ≡ unwrap_or (option_and_then (λ r. slice_get r.grants page) (row_at c.rows cache)) false
    granted_by =
        ap (λ (o : Option Table). unwrap_or (option_and_then (λ t. slice_get t.grants page) o) false) (table_is m.pages c.rows cache)
        ∙ go (row_at c.rows cache)
      where
        go : (o : Option CacheRow)
            → unwrap_or (option_and_then (λ t. slice_get t.grants page) (option_map (table_by m.pages cache) o)) false
            ≡ unwrap_or (option_and_then (λ r. slice_get r.grants page) o) false
        go None = refl
        go (Some r) = refl

    pub locks_by : locks_of (arena_by m c) cache page
        ≡ unwrap_or (option_and_then (λ r. slice_get r.locks page) (row_at c.rows cache)) 0
    locks_by =
        ap (λ (o : Option Table). unwrap_or (option_and_then (λ t. slice_get t.locks page) o) 0) (table_is m.pages c.rows cache)
        ∙ go (row_at c.rows cache)
      where
        go : (o : Option CacheRow)
            → unwrap_or (option_and_then (λ t. slice_get t.locks page) (option_map (table_by m.pages cache) o)) 0
            ≡ unwrap_or (option_and_then (λ r. slice_get r.locks page) o) 0
        go None = refl
        go (Some r) = refl

    -- the entry of a page that a live cache has
    pub entry_is : HasRow c.rows cache page
        → entry_at (arena_by m c).caches cache page ≡ Some (entry_under m.pages (page_number cache page))
    entry_is has =
        let at : 0 + page ≡ page = omega arith in
        ap (option_and_then (λ t. slice_get t.pages page))
        (table_is m.pages c.rows cache ∙ ap (option_map (table_by m.pages cache)) has.is)
        ∙ get_entry m.pages cache 0 has.row.pages page has.below
        ∙ ap (λ (p : ℕ). Some (entry_under m.pages (page_number cache p))) at

    -- a page that has an entry is one of a live cache
    pub has_row : IsSome (entry_at (arena_by m c).caches cache page) → HasRow c.rows cache page
    has_row some = go (row_at c.rows cache) refl
        (sym (ap (λ (o : Option Table). is_some (option_and_then (λ t. slice_get t.pages page) o)) (table_is m.pages c.rows cache)) ∙ some)
      where
        go : (o : Option CacheRow) → row_at c.rows cache ≡ o
            → IsSome (option_and_then (λ t. slice_get t.pages page) (option_map (table_by m.pages cache) o))
            → HasRow c.rows cache page
        go None is h = absurd (false≢true h)
        go (Some r) is h =
            let e = some_of (slice_get (entries_by m.pages cache 0 r.pages) page) h in
            record {
              row = r;
              is = is;
              below = omega (arith, slice_get_within (entries_by m.pages cache 0 r.pages) page e.0 e.1, length_entries m.pages cache 0 r.pages);
            }

    -- the node of a page that a live cache has
    pub node_is : HasRow c.rows cache page
        → node_at (arena_by m c) cache page ≡ nodes.node_at m cache page
    node_is has =
        by_entry (table_of (arena_by m c) cache)
        ∙ ap (option_and_then (λ e. e.node)) (entry_is has)
      where
        by_entry : (t : Option Table)
            → option_and_then (λ t. option_and_then (λ e. e.node) (slice_get t.pages page)) t
            ≡ option_and_then (λ e. e.node) (option_and_then (λ t. slice_get t.pages page) t)
        by_entry None = refl
        by_entry (Some t) = refl

    -- the same, of a page of which the arena says that it has no node
    pub none_is : node_at (arena_by m c) cache page ≡ None → HasRow c.rows cache page
        → ids.get m.pages (page_number cache page) ≡ None
    none_is none has = sym (node_is has) ∙ none

    -- the number behind a page fits a u32
    pub page_short : AreShort c.rows → HasRow c.rows cache page → page + 1 < 2 ^ 32
    page_short few has = go cache has.is
      where
        go : (k : ℕ) → row_at c.rows k ≡ Some has.row → page + 1 < 2 ^ 32
        go zero is = absurd (none-some has.row is)
        go (suc k) is = omega (arith, few k has.row is, has.below)

locked_row : (m : Pages) (cache : ℕ) (o : Option CacheRow)
    → locked_pages (option_map (table_by m cache) o) ≡ row_locked o
locked_row m cache None = refl
locked_row m cache (Some r) = refl

pub locked_rows : (m : Pages) (from : ℕ) (rows : List (Option CacheRow))
    → sum_by locked_pages (tables_by m from rows) ≡ sum_by row_locked rows
locked_rows m from [] = refl
locked_rows m from (r ∷ rows) =
    omega (
      arith,
      locked_row m from r,
      locked_rows m (from + 1) rows,
      sum_by-cons locked_pages (option_map (table_by m from) r) (tables_by m (from + 1) rows),
      sum_by-cons row_locked r rows,
    )

-- how many pages are locked
pub locked_by : (m : PageNodes) (c : CacheRows) → locked_count (arena_by m c) ≡ sum_by row_locked c.rows
locked_by m c = locked_rows m.pages 1 c.rows

-- One row changed

module _ (m : Pages) where
  module _ (change : CacheRow → CacheRow) (after : Table → Table)
      (same : (cache : ℕ) (r : CacheRow) → table_by m cache (change r) ≡ after (table_by m cache r)) where
    row_changed : (cache : ℕ) (o : Option CacheRow)
        → option_map (table_by m cache) (option_map change o) ≡ option_map after (option_map (table_by m cache) o)
    row_changed cache None = refl
    row_changed cache (Some r) = ap Some (same cache r)

    changed_from : (from : ℕ) (rows : List (Option CacheRow)) (k : ℕ)
        → tables_by m from (set rows k (option_map change (get_or rows k None)))
        ≡ set (tables_by m from rows) k (option_map after (get_or (tables_by m from rows) k None))
    changed_from from [] k = refl
    changed_from from (r ∷ rows) zero =
        ap (λ (t : Option Table). t ∷ tables_by m (from + 1) rows) (row_changed from r)
    changed_from from (r ∷ rows) (suc k) =
        ap (λ (ts : List (Option Table)). option_map (table_by m from) r ∷ ts) (changed_from (from + 1) rows k)

    pub tables_changed : (rows : List (Option CacheRow)) (cache : ℕ)
        → tables_by m 1 (rows_changed rows cache change) ≡ changed_at (tables_by m 1 rows) cache after
    tables_changed rows zero = refl
    tables_changed rows (suc k) = changed_from 1 rows k

  without_from : (from : ℕ) (rows : List (Option CacheRow)) (k : ℕ)
      → tables_by m from (set rows k None) ≡ set (tables_by m from rows) k None
  without_from from [] k = refl
  without_from from (r ∷ rows) zero = refl
  without_from from (r ∷ rows) (suc k) =
      ap (λ (ts : List (Option Table)). option_map (table_by m from) r ∷ ts) (without_from (from + 1) rows k)

  pub tables_taken : (rows : List (Option CacheRow)) (cache : ℕ)
      → tables_by m 1 (rows_without rows cache) ≡ tables_without (tables_by m 1 rows) cache
  tables_taken rows zero = refl
  tables_taken rows (suc k) = without_from 1 rows k

  count_is : (cache : ℕ) (o : Option CacheRow) → page_count (option_map (table_by m cache) o) ≡ row_pages o
  count_is cache None = refl
  count_is cache (Some r) = length_entries m cache 0 r.pages

-- The calls

module _ (m : PageNodes) (c : CacheRows) where
  pub grant_by : (cache page : ℕ)
      → arena_by m (with_changed c cache (row_granting page)) ≡ with_grant (arena_by m c) cache page
  grant_by cache page =
      let tables = tables_changed m.pages (row_granting page) _ (λ k r. refl) c.rows cache in
      λ i. record (arena_by m c) { caches = tables i }

  pub lock_by : (cache page count : ℕ)
      → arena_by m (with_changed c cache (row_locking page count))
      ≡ with_locks (arena_by m c) cache page count
  lock_by cache page count =
      let tables = tables_changed m.pages (row_locking page count) _ (λ k r. refl) c.rows cache in
      λ i. record (arena_by m c) { caches = tables i }

  pub remove_by : (cache : CacheId)
      → arena_by m (without_row c cache.0) ≡ without_cache (arena_by m c) cache
  remove_by cache =
      let tables = tables_taken m.pages c.rows cache.0 in
      let count : row_pages (row_at c.rows cache.0) ≡ page_count (table_of (arena_by m c) cache.0) =
      sym (ap page_count (table_is m.pages c.rows cache.0) ∙ count_is m.pages cache.0 (row_at c.rows cache.0)) in
      λ i. record (arena_by m c) {
        caches = tables i;
        room = record { nodes = m.room; caches = c.places; entries = c.entries + count i };
      }

-- What is told then

row_here : (rows : List (Option CacheRow)) (cache : ℕ) (change : CacheRow → CacheRow)
    → row_at (rows_changed rows cache change) cache ≡ option_map change (row_at rows cache)
row_here rows zero change = refl
row_here rows (suc k) change = read_set rows k change

set_here : {X : Type 0} (xs : List X) (k : ℕ) (v : X) → k < length xs → slice_get (set xs k v) k ≡ Some v
set_here xs k v below =
    slice_get-get_or (set xs k v) k v (omega (arith, below, length-set xs k v))
    ∙ ap Some (get_or-set_same xs k v v below)

module _ (m : PageNodes) (c : CacheRows) (cache page : ℕ) (has : HasRow c.rows cache page)
    (full : IsFull has.row) where
  -- the page that was granted
  pub granted_now : is_granted (arena_by m (with_changed c cache (row_granting page))) cache page ≡ true
  granted_now =
      granted_by m (with_changed c cache (row_granting page)) cache page
      ∙ ap (λ (o : Option CacheRow). unwrap_or (option_and_then (λ r. slice_get r.grants page) o) false)
      (row_here c.rows cache (row_granting page) ∙ ap (option_map (row_granting page)) has.is)
      ∙ ap (λ (o : Option Bool). unwrap_or o false)
      (set_here has.row.grants page true (omega (arith, has.below, full.grants)))

  -- the locks that were set
  pub locks_now : (count : ℕ)
      → locks_of (arena_by m (with_changed c cache (row_locking page count))) cache page ≡ count
  locks_now count =
      locks_by m (with_changed c cache (row_locking page count)) cache page
      ∙ ap (λ (o : Option CacheRow). unwrap_or (option_and_then (λ r. slice_get r.locks page) o) 0)
      (row_here c.rows cache (row_locking page count) ∙ ap (option_map (row_locking page count)) has.is)
      ∙ ap (λ (o : Option ℕ). unwrap_or o 0)
      (set_here has.row.locks page count (omega (arith, has.below, full.locks)))
