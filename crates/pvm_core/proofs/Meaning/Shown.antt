-- The caches that a forest shows.
use Rattle.std.proofs.Common.{◌≡◌, ℕ, zero, suc, ◌+◌, ◌-◌, ◌<◌, ◌==◌, Bool, false, cond, List, [], ◌∷◌, length, get_or, map, Option, Some, None, refl, sym, ap, ◌∙◌, subst, arith}
use Rattle.std.specs.Prelude.{option_map, option_and_then, slice_get, sum_by}
use Rattle.std.specs.List.{All}
use Rattle.std.proofs.lemmas.Bool.Decides.{nat_tests}
use Rattle.std.proofs.lemmas.List.Elements.{All-nil, All-cons}
use Rattle.std.proofs.lemmas.List.Sums.{sum_by-cons}
use Rattle.vm_ids.specs.declared.numbers.CacheId.{CacheId}
use Rattle.vm_ids.specs.Forest.Commands.{page_name}
use Rattle.vm_ids.specs.Forest.Reading.{value_of}
use Rattle.local_cache.specs.Arena.{Table, page_count, table_at}
use Rattle.vm_model.specs.Machine.{Cache, Page, numbered, pages_in}
use Rattle.vm_model.specs.Outcome.{IsWhole, blank_cache}
use Rattle.vm_model.specs.PageForest.{PageForest}
use Rattle.pvm_core.specs.Manager.{cache_shown, caches_shown, pages_shown, shown}

abbrev pub id_of : ℕ → CacheId
id_of n = record { 0 = n }

pub length-pages : (f : PageForest) (cache page n : ℕ) → length (pages_shown f cache page n) ≡ n
length-pages f cache page zero = refl
length-pages f cache page (suc n) = ap suc (length-pages f cache (page + 1) n)

pub get-pages : (f : PageForest) (cache page n i : ℕ) → i < n → slice_get (pages_shown f cache page n) i ≡ Some (shown (value_of f (page_name (id_of cache) (page + i))))
get-pages f cache page zero i less = absurd (omega (arith, less))
get-pages f cache page (suc n) zero less = ap (λ (k : ℕ). Some (shown (value_of f (page_name (id_of cache) k)))) (let e : page ≡ page + 0 = omega arith in e)
get-pages f cache page (suc n) (suc i) less = get-pages f cache (page + 1) n i (omega (arith, less)) ∙ ap (λ (k : ℕ). Some (shown (value_of f (page_name (id_of cache) k)))) (let e : page + 1 + i ≡ page + suc i = omega arith in e)

-- the cache at a place of a list of them
pub get-caches : (f : PageForest) (first : ℕ) (ts : List (Option Table)) (k : ℕ) → option_and_then (λ x. x) (slice_get (caches_shown f first ts) k) ≡ option_map (cache_shown f (first + k)) (get_or ts k None)
get-caches f first [] k = refl
get-caches f first (t ∷ ts) zero = ap (λ (n : ℕ). option_map (cache_shown f n) t) (let e : first ≡ first + 0 = omega arith in e)
get-caches f first (t ∷ ts) (suc k) = get-caches f (first + 1) ts k ∙ ap (λ (n : ℕ). option_map (cache_shown f n) (get_or ts k None)) (let e : first + 1 + k ≡ first + suc k = omega arith in e)

nonzero : (k : ℕ) → (suc k == 0) ≡ false
nonzero k = grind (arith, nat_tests)

-- the cache with a number is that of its table
pub numbered-caches : (f : PageForest) (ts : List (Option Table)) (n : ℕ) → numbered (caches_shown f 1 ts) n ≡ option_map (cache_shown f n) (table_at ts n)
numbered-caches f ts zero = refl
numbered-caches f ts (suc k) = at k (let e : suc k - 1 ≡ k = omega arith in e) ∙ get-caches f 1 ts k ∙ ap (λ (n : ℕ). option_map (cache_shown f n) (get_or ts k None)) (let e : 1 + k ≡ suc k = omega arith in e)
  where
    at : (i : ℕ) → suc k - 1 ≡ i → numbered (caches_shown f 1 ts) (suc k) ≡ option_and_then (λ x. x) (slice_get (caches_shown f 1 ts) i)
    at i e = ap (λ (b : Bool). cond b None (option_and_then (λ (x : Option Cache). x) (slice_get (caches_shown f 1 ts) (suc k - 1)))) (nonzero k) ∙ ap (λ (i : ℕ). option_and_then (λ (x : Option Cache). x) (slice_get (caches_shown f 1 ts) i)) e

sizes : (f : PageForest) (n : ℕ) (o : Option Table) → option_map (λ (c : Cache). length c.pages) (option_map (cache_shown f n) o) ≡ option_map (λ (t : Table). length t.pages) o
sizes f n None = refl
sizes f n (Some t) = ap Some (length-pages f n 0 (length t.pages))

-- it has as many pages as its table
pub shown_size : (f : PageForest) (ts : List (Option Table)) (n : ℕ) → option_map (λ (c : Cache). length c.pages) (numbered (caches_shown f 1 ts) n) ≡ option_map (λ (t : Table). length t.pages) (table_at ts n)
shown_size f ts n = ap (option_map (λ (c : Cache). length c.pages)) (numbered-caches f ts n) ∙ sizes f n (table_at ts n)

one_live : (f : PageForest) (n : ℕ) (o : Option Table) → pages_in (option_map (cache_shown f n) o) ≡ page_count o
one_live f n None = refl
one_live f n (Some t) = length-pages f n 0 (length t.pages)

-- there are as many live pages
pub shown_live : (f : PageForest) (first : ℕ) (ts : List (Option Table)) → sum_by pages_in (caches_shown f first ts) ≡ sum_by page_count ts
shown_live f first [] = refl
shown_live f first (t ∷ ts) = omega (arith, sum_by-cons pages_in (option_map (cache_shown f first) t) (caches_shown f (first + 1) ts), sum_by-cons page_count t ts, one_live f first t, shown_live f (first + 1) ts)

pub shown_made : (f : PageForest) (first : ℕ) (ts : List (Option Table)) → length (caches_shown f first ts) ≡ length ts
shown_made f first [] = refl
shown_made f first (t ∷ ts) = ap suc (shown_made f (first + 1) ts)

-- Without bytes

module _ (f g : PageForest) (none : (cache : CacheId) (page : ℕ) → shown (value_of g (page_name cache page)) ≡ []) where
  blank_pages : (cache page n : ℕ) → map (λ (p : Page). []) (pages_shown f cache page n) ≡ pages_shown g cache page n
  blank_pages cache page zero = refl
  blank_pages cache page (suc n) = λ i. sym (none (id_of cache) page) i ∷ blank_pages cache (page + 1) n i

  blank_one : (cache : ℕ) (o : Option Table) → option_map blank_cache (option_map (cache_shown f cache) o) ≡ option_map (cache_shown g cache) o
  blank_one cache None = refl
  blank_one cache (Some t) = ap (λ (ps : List Page). Some (record { segment = option_map (λ s. s.0) t.segment; pages = ps })) (blank_pages cache 0 (length t.pages))

  -- where g tells no bytes, it shows the caches of f without their bytes
  pub blank_shown : (first : ℕ) (ts : List (Option Table)) → map (option_map blank_cache) (caches_shown f first ts) ≡ caches_shown g first ts
  blank_shown first [] = refl
  blank_shown first (t ∷ ts) = λ i. blank_one first t i ∷ blank_shown (first + 1) ts i

-- Whole pages

module _ (f : PageForest) (b : ℕ) where
  whole_pages : (cache page n : ℕ) → ((i : ℕ) → i < n → length (shown (value_of f (page_name (id_of cache) (page + i)))) ≡ b) → All (λ (p : Page). length p ≡ b) (pages_shown f cache page n)
  whole_pages cache page zero each = All-nil (λ (p : Page). length p ≡ b)
  whole_pages cache page (suc n) each = All-cons (λ (p : Page). length p ≡ b) _ (pages_shown f cache (page + 1) n)
      (subst (λ (k : ℕ). length (shown (value_of f (page_name (id_of cache) k))) ≡ b) (let e : page + 0 ≡ page = omega arith in e) (each 0 (omega arith)))
      (whole_pages cache (page + 1) n (λ i less. subst (λ (k : ℕ). length (shown (value_of f (page_name (id_of cache) k))) ≡ b) (let e : page + suc i ≡ page + 1 + i = omega arith in e) (each (suc i) (omega (arith, less)))))

  whole_one : (cache : ℕ) (o : Option Table) → ((t : Table) → o ≡ Some t → (i : ℕ) → i < length t.pages → length (shown (value_of f (page_name (id_of cache) i))) ≡ b) → IsWhole b (option_map (cache_shown f cache) o)
  whole_one cache None each = tt
  whole_one cache (Some t) each = whole_pages cache 0 (length t.pages) (λ i less. subst (λ (k : ℕ). length (shown (value_of f (page_name (id_of cache) k))) ≡ b) (let e : i ≡ 0 + i = omega arith in e) (each t refl i less))

  pub whole_caches : (first : ℕ) (ts : List (Option Table)) → ((k : ℕ) (t : Table) → get_or ts k None ≡ Some t → (i : ℕ) → i < length t.pages → length (shown (value_of f (page_name (id_of (first + k)) i))) ≡ b) → All (IsWhole b) (caches_shown f first ts)
  whole_caches first [] each = All-nil (IsWhole b)
  whole_caches first (t ∷ ts) each = All-cons (IsWhole b) _ (caches_shown f (first + 1) ts)
      (whole_one first t (λ u e i less. subst (λ (k : ℕ). length (shown (value_of f (page_name (id_of k) i))) ≡ b) (let e : first + 0 ≡ first = omega arith in e) (each 0 u e i less)))
      (whole_caches (first + 1) ts (λ k u e i less. subst (λ (n : ℕ). length (shown (value_of f (page_name (id_of n) i))) ≡ b) (let e : first + suc k ≡ first + 1 + k = omega arith in e) (each (suc k) u e i less)))

-- The caches are those that the forest shows

-- a cache is the one that the forest shows for this table
abbrev pub Matches : PageForest → ℕ → Option Cache → Option Table → Type 0
Matches f n None None = Unit {0}
Matches f n (Some c) (Some t) = (c.segment ≡ option_map (λ s. s.0) t.segment) × (length c.pages ≡ length t.pages) × ((i : ℕ) (p : Page) → slice_get c.pages i ≡ Some p → shown (value_of f (page_name (id_of n) i)) ≡ p)
Matches f n c t = ⊥

module _ (f : PageForest) where
  pages_are : (cache page : ℕ) (ps : List Page) → ((i : ℕ) (p : Page) → slice_get ps i ≡ Some p → shown (value_of f (page_name (id_of cache) (page + i))) ≡ p) → pages_shown f cache page (length ps) ≡ ps
  pages_are cache page [] each = refl
  pages_are cache page (p ∷ ps) each = λ i. (ap (λ (k : ℕ). shown (value_of f (page_name (id_of cache) k))) (let e : page ≡ page + 0 = omega arith in e) ∙ each 0 p refl) i
      ∷ pages_are cache (page + 1) ps (λ i q e. ap (λ (k : ℕ). shown (value_of f (page_name (id_of cache) k))) (let e : page + 1 + i ≡ page + suc i = omega arith in e) ∙ each (suc i) q e) i

  one_is : (n : ℕ) (c : Option Cache) (t : Option Table) → Matches f n c t → option_map (cache_shown f n) t ≡ c
  one_is n None None m = refl
  one_is n (Some c) (Some t) m = λ i. Some (record {
    segment = sym m.0 i;
    pages = (ap (pages_shown f n 0) (sym m.1) ∙ pages_are n 0 c.pages (λ i p e. ap (λ (k : ℕ). shown (value_of f (page_name (id_of n) k))) (let e : 0 + i ≡ i = omega arith in e) ∙ m.2 i p e)) i;
  })
  one_is n None (Some t) m = absurd m
  one_is n (Some c) None m = absurd m

  -- caches that match the tables one by one are those that the forest shows
  pub caches_are : (first : ℕ) (cs : List (Option Cache)) (ts : List (Option Table)) → length cs ≡ length ts → ((k : ℕ) → k < length ts → Matches f (first + k) (get_or cs k None) (get_or ts k None)) → caches_shown f first ts ≡ cs
  caches_are first [] [] same each = refl
  caches_are first (c ∷ cs) (t ∷ ts) same each = λ i. one_is first c t (subst (λ (n : ℕ). Matches f n c t) (let e : first + 0 ≡ first = omega arith in e) (each 0 (omega arith))) i
      ∷ caches_are (first + 1) cs ts (omega (arith, same)) (λ k less. subst (λ (n : ℕ). Matches f n (get_or cs k None) (get_or ts k None)) (let e : first + suc k ≡ first + 1 + k = omega arith in e) (each (suc k) (omega (arith, less)))) i
  caches_are first [] (t ∷ ts) same each = absurd (omega (arith, same))
  caches_are first (c ∷ cs) [] same each = absurd (omega (arith, same))
