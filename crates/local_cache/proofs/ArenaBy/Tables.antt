-- The tables that are read off the nodes of pages, when the node of one page is another one.
use Rattle.std.proofs.Common.{◌≡◌, ◌≢◌, ℕ, zero, suc, ◌+◌, ◌<◌, ◌≤◌, ◌^◌, List, [], ◌∷◌, get_or, set, Option, Some, None, option_map, refl, ap, sym, subst, ◌∙◌, arith}
use Rattle.std.specs.FinMap as ids
use Rattle.local_cache.specs.Pages.{Pages}
use Rattle.vm_ids.specs.declared.numbers.NodeId.{NodeId}
use Rattle.local_cache.specs.Arena.{cache_with, table_with}
use Rattle.local_cache.specs.ArenaBy.{CacheRow, entries_by, entry_under, table_by, tables_by}
use Rattle.local_cache.specs.Placed.{AreShort}
use Rattle.local_cache.specs.NodeKeys.{page_number}

-- Two maps of nodes that agree on the pages of some caches

module _ (old new : Pages) where
  abbrev pub Agree : ℕ → ℕ → Type 0
  Agree cache page =
      ids.get new (page_number cache page) ≡ ids.get old (page_number cache page)

  entry_same : (cache page : ℕ) → Agree cache page
      → entry_under new (page_number cache page) ≡ entry_under old (page_number cache page)
  entry_same cache page same i = record { node = same i }

  pub entries_same : (cache from k : ℕ)
      → ((page : ℕ) → from ≤ page → page < from + k → Agree cache page)
      → entries_by new cache from k ≡ entries_by old cache from k
  entries_same cache from zero same = refl
  entries_same cache from (suc k) same =
      let one = entry_same cache from (same from (omega arith) (omega arith)) in
      let rest = entries_same cache (from + 1) k
      (λ page low high. same page (omega (arith, low)) (omega (arith, high))) in
      λ i. one i ∷ rest i

  pub table_same : (cache : ℕ) (r : CacheRow) → ((page : ℕ) → page < r.pages → Agree cache page)
      → table_by new cache r ≡ table_by old cache r
  table_same cache r same =
      let pages = entries_same cache 0 r.pages (λ page low high. same page (omega (arith, high))) in
      λ i. record (table_by old cache r) { pages = pages i }

  pub tables_same : (from : ℕ) (rows : List (Option CacheRow))
      → ((k : ℕ) (r : CacheRow) (page : ℕ) → get_or rows k None ≡ Some r → page < r.pages
      → Agree (from + k) page)
      → tables_by new from rows ≡ tables_by old from rows
  tables_same from [] same = refl
  tables_same from (None ∷ rows) same =
      let rest = tables_same (from + 1) rows (λ k r page is below.
      let at : from + suc k ≡ from + 1 + k = omega arith in
      subst (λ (c : ℕ). Agree c page) at (same (suc k) r page is below)) in
      λ i. None ∷ rest i
  tables_same from (Some r ∷ rows) same =
      let one = table_same from r (λ page below.
      let at : from + 0 ≡ from = omega arith in
      subst (λ (c : ℕ). Agree c page) at (same 0 r page refl below)) in
      let rest = tables_same (from + 1) rows (λ k r page is below.
      let at : from + suc k ≡ from + 1 + k = omega arith in
      subst (λ (c : ℕ). Agree c page) at (same (suc k) r page is below)) in
      λ i. Some (one i) ∷ rest i

-- One page whose node is another one

module _ (old new : Pages) (cache page : ℕ) (o : Option NodeId)
    (short : page < 2 ^ 32)
    (here : entry_under new (page_number cache page) ≡ record { node = o })
    (others : (k : ℕ) → k ≢ page_number cache page → ids.get new k ≡ ids.get old k) where
  other_cache : (c p : ℕ) → c ≢ cache → p < 2 ^ 32 → Agree old new c p
  other_cache c p apart below =
      others (page_number c p) (λ e. apart (let same : c ≡ cache = omega (arith, e, short, below) in same))

  other_page : (p : ℕ) → p ≢ page → Agree old new cache p
  other_page p apart =
      others (page_number cache p) (λ e. apart (let same : p ≡ page = omega (arith, e) in same))

  entries_set : (from k d : ℕ) → d + from ≡ page
      → entries_by new cache from k ≡ set (entries_by old cache from k) d (record { node = o })
  entries_set from zero d at = refl
  entries_set from (suc k) zero at =
      let same : from ≡ page = omega (arith, at) in
      let one : entry_under new (page_number cache from) ≡ record { node = o } =
      ap (λ (p : ℕ). entry_under new (page_number cache p)) same ∙ here in
      let rest = entries_same old new cache (from + 1) k
      (λ p low high. other_page p (λ e. let bad : ⊥ = omega (arith, low, same, e) in bad)) in
      λ i. one i ∷ rest i
  entries_set from (suc k) (suc d) at =
      let one = entry_same old new cache from (other_page from (λ e. let bad : ⊥ = omega (arith, at, e) in bad)) in
      let rest = entries_set (from + 1) k d (omega (arith, at)) in
      λ i. one i ∷ rest i

  row_set : (c : ℕ) (r : Option CacheRow) → c ≡ cache
      → option_map (table_by new c) r ≡ option_map (table_with page o) (option_map (table_by old c) r)
  row_set c None same = refl
  row_set c (Some r) same =
      let at : page + 0 ≡ page = omega arith in
      let pages = entries_set 0 r.pages page at in
      ap (λ (k : ℕ). Some (table_by new k r)) same
      ∙ (λ i. Some (record (table_by old cache r) { pages = pages i }))
      ∙ ap (λ (k : ℕ). Some (table_with page o (table_by old k r))) (sym same)

  row_same : (c : ℕ) (r : Option CacheRow) → c ≢ cache
      → ((s : CacheRow) → r ≡ Some s → s.pages < 2 ^ 32)
      → option_map (table_by new c) r ≡ option_map (table_by old c) r
  row_same c None apart few = refl
  row_same c (Some r) apart few =
      ap Some (table_same old new c r (λ p below. other_cache c p apart (omega (arith, few r refl, below))))

  rows_set : (from : ℕ) (rows : List (Option CacheRow)) → AreShort rows → (d : ℕ) → d + from ≡ cache
      → tables_by new from rows
      ≡ set (tables_by old from rows) d (option_map (table_with page o) (get_or (tables_by old from rows) d None))
  rows_set from [] few d at = refl
  rows_set from (r ∷ rows) few zero at =
      let same : from ≡ cache = omega (arith, at) in
      let one = row_set from r same in
      let rest = tables_same old new (from + 1) rows (λ k s p is below.
      other_cache (from + 1 + k) p (λ e. let bad : ⊥ = omega (arith, same, e) in bad)
      (omega (arith, few (suc k) s is, below))) in
      λ i. one i ∷ rest i
  rows_set from (r ∷ rows) few (suc d) at =
      let one = row_same from r (λ e. let bad : ⊥ = omega (arith, at, e) in bad) (few 0) in
      let rest = rows_set (from + 1) rows (λ k. few (suc k)) d (omega (arith, at)) in
      λ i. one i ∷ rest i

  -- the table of its cache has that node at this page, and no other table changes
  pub tables_set : (rows : List (Option CacheRow)) → AreShort rows
      → tables_by new 1 rows ≡ cache_with (tables_by old 1 rows) cache page o
  tables_set rows few = go cache refl
    where
      go : (c : ℕ) → cache ≡ c → tables_by new 1 rows ≡ cache_with (tables_by old 1 rows) c page o
      go zero is = tables_same old new 1 rows (λ k s p at below.
          other_cache (1 + k) p (λ e. let bad : ⊥ = omega (arith, is, e) in bad)
          (omega (arith, few k s at, below)))
      go (suc k) is = rows_set 1 rows few k (omega (arith, is))
