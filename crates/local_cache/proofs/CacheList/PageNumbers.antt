-- The numbers of pages of live caches, and how many there are.
use Rattle.std.proofs.Common.{◌≡◌, ◌≢◌, ◌⊎◌, ℕ, zero, suc, ◌+◌, ◌<◌, ◌≤◌, ◌^◌, List, [], ◌∷◌, ◌++◌, get_or, set, Option, Some, None, IsSome, is_some, refl, ap, sym, ◌∙◌, inl, inr, arith}
use Rattle.std.proofs.lemmas.Bool.{cases_Bool, cases_eq, cases_lt, false≢true}
use Rattle.std.proofs.lemmas.List.{get_or_append_left}
use Rattle.std.proofs.lemmas.List.Sums.{get_or-le-sum_by, sum_by-cons}
use Rattle.std.proofs.lemmas.Option.{none-some, same_Some}
use Rattle.std.specs.Ordering.{nat_cmp}
use Rattle.std.specs.FinMap.{FinMap}
use Rattle.std.specs.FinMap as map
use Rattle.local_cache.specs.declared.cache_list.CacheEntry.{CacheEntry}
use Rattle.local_cache.specs.CacheList.{IsPageOf, entry_at, entry_pages, page_sum}
use Rattle.local_cache.specs.NodeKeys.{page_number}
use Rattle.local_cache.specs.Singles.{without_range}
use Rattle.local_cache.proofs.ArenaBy.NewCache.{row_within}
use Rattle.local_cache.proofs.ManyNodes.Cleared.{range_cases, range_in, range_out}
use Rattle.local_cache.proofs.NodeCells.{inserted_other, removed_here, removed_other, some_number}
use Rattle.local_cache.proofs.Singles.{len_remove_old, none_of, remove_absent}
use Rattle.local_cache.proofs.Tables.Listing.{read_other}

-- Numbers

pub entry_index : (es : List (Option CacheEntry)) (cache : ℕ) (e : CacheEntry) → entry_at es cache ≡ Some e
    → (k : ℕ) × (cache ≡ suc k) × (get_or es k None ≡ Some e)
entry_index es zero e is = absurd (none-some e is)
entry_index es (suc k) e is = (k, refl, is)

-- no cache has more pages than all together
pub pages_within : (es : List (Option CacheEntry)) (k : ℕ) (e : CacheEntry) → get_or es k None ≡ Some e
    → e.pages ≤ page_sum es
pages_within es k e is =
    omega (arith, get_or-le-sum_by entry_pages es k None (row_within es k e is), ap entry_pages is)

module _ (es : List (Option CacheEntry)) (cache page : ℕ) where
  pub page_of : (e : CacheEntry) → entry_at es cache ≡ Some e → page < e.pages
      → IsPageOf 1 es (page_number cache page)
  page_of e is below =
      let at = entry_index es cache e is in
      record {
        at = at.0;
        page = page;
        entry = e;
        is = at.2;
        below = below;
        same = omega (arith, at.1);
      }

  -- a number is that of one page alone
  pub same_page : page_sum es < 2 ^ 32 → page < 2 ^ 32 → IsPageOf 1 es (page_number cache page)
      → (e : CacheEntry) × (entry_at es cache ≡ Some e) × (page < e.pages)
  same_page few short of =
      let low : of.page < 2 ^ 32 = omega (arith, pages_within es of.at of.entry of.is, of.below, few) in
      let here : cache ≡ suc of.at = omega (arith, of.same, low, short) in
      let alike : page ≡ of.page = omega (arith, of.same, low, short) in
      (of.entry, ap (entry_at es) here ∙ of.is, omega (arith, alike, of.below))

  -- a live cache has this page, or none has it
  pub page_cases : ((e : CacheEntry) × (entry_at es cache ≡ Some e) × (page < e.pages))
      ⊎ ((e : CacheEntry) → entry_at es cache ≡ Some e → page < e.pages → ⊥)
  page_cases = go (entry_at es cache) refl
    where
      go : (o : Option CacheEntry) → entry_at es cache ≡ o
          → ((e : CacheEntry) × (entry_at es cache ≡ Some e) × (page < e.pages))
          ⊎ ((e : CacheEntry) → entry_at es cache ≡ Some e → page < e.pages → ⊥)
      go None is = inr (λ e at below. none-some e (sym is ∙ at))
      go (Some e) is = elim (cases_lt page e.pages) [
        | inl below ↦ inl (e, is, below)
        | inr above ↦
            inr (λ f at below.
            let count : e.pages ≡ f.pages = ap (λ (x : CacheEntry). x.pages) (same_Some e f (sym is ∙ at)) in
            let bad : ⊥ = omega (arith, above, below, count) in
            bad)
      ]

-- a page of the first cache, or of another one
split : (from : ℕ) (o : Option CacheEntry) (es : List (Option CacheEntry)) (k : ℕ) → IsPageOf from (o ∷ es) k
    → ((e : CacheEntry) × (o ≡ Some e) × (page_number from 0 ≤ k) × (k < page_number from 0 + e.pages))
    ⊎ IsPageOf (from + 1) es k
split from o es k of = go of.at of.is of.same
  where
    go : (at : ℕ) → get_or (o ∷ es) at None ≡ Some of.entry → k ≡ page_number (from + at) of.page
        → ((e : CacheEntry) × (o ≡ Some e) × (page_number from 0 ≤ k) × (k < page_number from 0 + e.pages))
        ⊎ IsPageOf (from + 1) es k
    go zero is same = inl (of.entry, is, omega (arith, same), omega (arith, same, of.below))
    go (suc at) is same = inr (record {
      at = at;
      page = of.page;
      entry = of.entry;
      is = is;
      below = of.below;
      same = omega (arith, same);
    })

-- Maps that have such numbers alone

module _ {V : Type 0} where
  abbrev pub HasPages : ℕ → List (Option CacheEntry) → FinMap nat_cmp V → Type 0
  HasPages from es m = (k : ℕ) → IsSome (map.get m k) → IsPageOf from es k

  -- such a map has nothing where there is no page
  pub nothing_at : (m : FinMap nat_cmp V) (es : List (Option CacheEntry)) → HasPages 1 es m
      → page_sum es < 2 ^ 32 → (cache page : ℕ) → page < 2 ^ 32
      → ((e : CacheEntry) → entry_at es cache ≡ Some e → page < e.pages → ⊥)
      → map.get m (page_number cache page) ≡ None
  nothing_at m es has few cache page short absent = elim (cases_Bool (is_some (map.get m (page_number cache page)))) [
    | inl there ↦
        let of = same_page es cache page few short (has (page_number cache page) there) in
        absurd (absent of.0 of.1 of.2)
    | inr none ↦ none_of (map.get m (page_number cache page)) none
  ]

  pub pages_set : (m : FinMap nat_cmp V) (es : List (Option CacheEntry)) (number : ℕ) (v : V) → HasPages 1 es m
      → IsPageOf 1 es number → HasPages 1 es (map.insert m number v)
  pages_set m es number v has of k some = elim (cases_eq k number) [
    | inl same ↦ record {
      at = of.at;
      page = of.page;
      entry = of.entry;
      is = of.is;
      below = of.below;
      same = same ∙ of.same;
    }
    | inr other ↦ has k (sym (ap is_some (inserted_other m number v k other)) ∙ some)
  ]

  pub pages_cleared : (m : FinMap nat_cmp V) (es : List (Option CacheEntry)) (number : ℕ) → HasPages 1 es m
      → HasPages 1 es (map.remove m number)
  pages_cleared m es number has k some = elim (cases_eq k number) [
    | inl same ↦
        absurd (false≢true (sym (ap is_some (ap (map.get (map.remove m number)) same ∙ removed_here m number)) ∙ some))
    | inr other ↦ has k (sym (ap is_some (removed_other m number k other)) ∙ some)
  ]

  -- a cache more
  pub pages_more : (m : FinMap nat_cmp V) (es : List (Option CacheEntry)) (e : Option CacheEntry) → HasPages 1 es m
      → HasPages 1 (es ++ e ∷ []) m
  pages_more m es e has k some =
      let of = has k some in
      record {
        at = of.at;
        page = of.page;
        entry = of.entry;
        is = get_or_append_left es (e ∷ []) None of.at (row_within es of.at of.entry of.is) ∙ of.is;
        below = of.below;
        same = of.same;
      }

  -- a cache less, and nothing at the numbers of its pages
  pub pages_left : (m : FinMap nat_cmp V) (es : List (Option CacheEntry)) (at : ℕ) (e : CacheEntry)
      → get_or es at None ≡ Some e → HasPages 1 es m
      → HasPages 1 (set es at None) (without_range m (page_number (suc at) 0) e.pages)
  pages_left m es at e is has k some = elim (range_cases (page_number (suc at) 0) e.pages k) [
    | inl inside ↦
        absurd (false≢true (sym (ap is_some (range_in m (page_number (suc at) 0) e.pages k inside.0 inside.1)) ∙ some))
    | inr out ↦
        let of = has k (sym (ap is_some (range_out m (page_number (suc at) 0) e.pages k out)) ∙ some) in
        let apart : of.at ≢ at = λ here.
        let same : of.entry ≡ e = same_Some of.entry e (sym of.is ∙ ap (λ (j : ℕ). get_or es j None) here ∙ is) in
        let pages : of.entry.pages ≡ e.pages = ap (λ (x : CacheEntry). x.pages) same in
        elim out [
          | inl below ↦ let bad : ⊥ = omega (arith, below, of.same, here) in bad
          | inr above ↦ let bad : ⊥ = omega (arith, above, of.same, here, of.below, pages) in bad
        ] in
        record {
          at = of.at;
          page = of.page;
          entry = of.entry;
          is = read_other es at of.at None apart ∙ of.is;
          below = of.below;
          same = of.same;
        }
  ]

  -- How many numbers there are

  len_left : (m : FinMap nat_cmp V) (first k : ℕ) → map.len m ≤ map.len (without_range m first k) + k
  len_left m first zero = omega arith
  len_left m first (suc k) =
      let rest = len_left m first k in
      let left = without_range m first k in
      elim (cases_Bool (is_some (map.get left (first + k)))) [
        | inl there ↦ omega (arith, rest, len_remove_old left (first + k) there)
        | inr none ↦
            omega (arith, rest, ap map.len (remove_absent left (first + k) (none_of (map.get left (first + k)) none)))
      ]

  len_pages_from : (from : ℕ) (es : List (Option CacheEntry)) (m : FinMap nat_cmp V) → HasPages from es m
      → map.len m ≤ page_sum es
  len_pages_from from [] m has = elim (cases_eq (map.len m) 0) [
    | inl none ↦ omega (arith, none)
    | inr some ↦
        let one = some_number m (omega (arith, some)) in
        let of = has one.0 (ap is_some one.2) in
        absurd (none-some of.entry of.is)
  ]
  len_pages_from from (None ∷ es) m has =
      let rest = len_pages_from (from + 1) es m (λ k some. elim (split from None es k (has k some)) [
        | inl here ↦ absurd (none-some here.0 here.1)
        | inr behind ↦ behind
      ]) in
      omega (arith, rest, sum_by-cons entry_pages None es)
  len_pages_from from (Some e ∷ es) m has =
      let left = without_range m (page_number from 0) e.pages in
      let rest = len_pages_from (from + 1) es left (λ k some. elim (range_cases (page_number from 0) e.pages k) [
        | inl inside ↦
            absurd (false≢true (sym (ap is_some (range_in m (page_number from 0) e.pages k inside.0 inside.1)) ∙ some))
        | inr out ↦ elim (split from (Some e) es k (has k (sym (ap is_some (range_out m (page_number from 0) e.pages k out)) ∙ some))) [
          | inl here ↦
              let pages : e.pages ≡ here.0.pages = ap (λ (x : CacheEntry). x.pages) (same_Some e here.0 here.1) in
              absurd (elim out [
                | inl below ↦ let bad : ⊥ = omega (arith, below, here.2) in bad
                | inr above ↦ let bad : ⊥ = omega (arith, above, here.3, pages) in bad
              ])
          | inr behind ↦ behind
        ]
      ]) in
      omega (arith, rest, len_left m (page_number from 0) e.pages, sum_by-cons entry_pages (Some e) es)

  -- a map has no more numbers than there are pages
  pub len_pages : (es : List (Option CacheEntry)) (m : FinMap nat_cmp V) → HasPages 1 es m → map.len m ≤ page_sum es
  len_pages es m has = len_pages_from 1 es m has
