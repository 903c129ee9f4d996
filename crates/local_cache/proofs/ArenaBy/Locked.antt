-- How many pages are locked by the rows of caches, after each call that changes a row.
use Rattle.std.proofs.Common.{◌≡◌, ℕ, zero, suc, ◌+◌, ◌<◌, List, [], ◌∷◌, ◌++◌, length, get_or, count_by, sum_by, Option, Some, None, option_map, refl, ap, ◌∙◌, arith}
use Rattle.std.proofs.lemmas.List.Sums.{sum_by-set, sum_by_push}
use Rattle.std.proofs.lemmas.Option.{none-some}
use Rattle.vm_ids.specs.declared.numbers.SegId.{SegId}
use Rattle.local_cache.specs.Arena.{is_locked, locked_pages, table_locking}
use Rattle.local_cache.specs.ArenaBy.{CacheRow, table_by, tables_by}
use Rattle.local_cache.specs.Pages.{Pages}
use Rattle.local_cache.specs.RowChanges.{new_row, row_at, row_locked, row_locking, rows_changed, rows_without}
use Rattle.local_cache.proofs.ArenaBy.NewCache.{row_within}
use Rattle.local_cache.proofs.ArenaBy.Rows.{locked_rows, table_is, tables_changed}
use Rattle.local_cache.proofs.Tables.Locked.{bit, locked_set, none_locked}

-- one page gets so many locks
pub locking_counts : (m : Pages) (rows : List (Option CacheRow)) (cache page count : ℕ)
    (r : CacheRow) → row_at rows cache ≡ Some r → page < length r.locks
    → sum_by row_locked (rows_changed rows cache (row_locking page count)) + bit (get_or r.locks page 0)
    ≡ sum_by row_locked rows + bit count
locking_counts m rows cache page count r at less =
    let after = rows_changed rows cache (row_locking page count) in
    omega (
      arith,
      locked_rows m 1 rows,
      locked_rows m 1 after,
      ap (sum_by locked_pages) (tables_changed m (row_locking page count) (table_locking page count) (λ k s. refl) rows cache),
      locked_set (tables_by m 1 rows) cache page count (table_by m cache r)
          (table_is m rows cache ∙ ap (option_map (table_by m cache)) at) less,
    )

-- the locks of a cache that goes fall away
pub removed_counts : (rows : List (Option CacheRow)) (cache : ℕ) (r : CacheRow)
    → row_at rows cache ≡ Some r
    → sum_by row_locked (rows_without rows cache) + count_by is_locked r.locks ≡ sum_by row_locked rows
removed_counts rows zero r at = absurd (none-some r at)
removed_counts rows (suc k) r at =
    omega (arith, sum_by-set row_locked rows k None None (row_within rows k r at), ap row_locked at)

-- a new cache has none
pub made_counts : (rows : List (Option CacheRow)) (segment : Option SegId) (pages : ℕ)
    → sum_by row_locked (rows ++ Some (new_row segment pages) ∷ []) ≡ sum_by row_locked rows
made_counts rows segment pages =
    omega (arith, sum_by_push row_locked rows (Some (new_row segment pages)), none_locked pages)
