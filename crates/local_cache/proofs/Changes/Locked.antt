-- Pages are locked and unlocked.
use Rattle.std.proofs.Common.{◌≡◌, ◌≢◌, ℕ, zero, suc, ◌+◌, ◌-◌, false, List, [], ◌∷◌, length-set, get_or, set, count_by, sum_by, Option, Some, None, unwrap_or, option_map, slice_get, refl, sym, ap, ◌∙◌, arith, add-one, inl, inr}
use Rattle.std.specs.Prelude.{if◌then◌else◌, option_and_then}
use Rattle.std.proofs.lemmas.Bool.{cases_eq}
use Rattle.std.proofs.lemmas.List.Sums.{sum_by-cons}
use Rattle.std.proofs.lemmas.Option.{slice_get-get_or, slice_get_cases, slice_get_past}
use Rattle.vm_ids.specs.declared.node_name.NodeName.{NodeName}
use Rattle.vm_ids.specs.declared.numbers.CacheId.{CacheId}
use Rattle.vm_ids.specs.declared.numbers.NodeId.{NodeId}
use Rattle.local_cache.specs.Arena.{Arena, Table, cell, changed_at, is_granted, is_locked, locked_count, locked_pages, locks_of, table_at, table_locking, table_of, tables_with, tables_without, with_locks, without_cache}
use Rattle.local_cache.specs.Reading.{forest_of}
use Rattle.local_cache.specs.Sound.{IsSound}
use Rattle.local_cache.proofs.Changes.Retabled.{changed_cell, changed_forest, changed_sound}
use Rattle.local_cache.proofs.Tables.Listing.{read_other, read_set}
use Rattle.local_cache.proofs.Tables.Locked.{bit, locked_set}
use Rattle.local_cache.proofs.Tables.Parts.{part-changed, part-others, part-same, part-tables_with}

module _ (a b : Arena) (locked place count : ℕ) (e : b ≡ with_locks a locked place count) where
  pub locked_forest : forest_of b ≡ forest_of a
  locked_forest = changed_forest (table_locking place count) (λ t. refl) a b locked e

  pub locked_sound : IsSound a → IsSound b
  locked_sound = changed_sound (table_locking place count) (λ t. refl) a b locked e

  -- the nodes are as they were
  pub locked_cell : (n : NodeId) → cell b n ≡ cell a n
  locked_cell = changed_cell (table_locking place count) (λ t. refl) a b locked e

  -- the locks of other pages stay
  pub locked_other : (cache page : ℕ) → (cache ≡ locked → page ≡ place → ⊥) → locks_of b cache page ≡ locks_of a cache page
  locked_other cache page apart = ap (λ x. locks_of x cache page) e ∙ part-others (λ (t : Table). t.locks) 0 (table_locking place count) place count (λ t. refl) a.caches locked cache page apart

  -- the grants of all pages stay
  pub locked_grants : (cache page : ℕ) → is_granted b cache page ≡ is_granted a cache page
  locked_grants cache page = ap (λ x. is_granted x cache page) e ∙ part-changed (λ (t : Table). t.grants) false (table_locking place count) (λ t. refl) a.caches locked cache page

-- What leaves the locks

-- where the tables stay
pub locks-same : (a b : Arena) → b.caches ≡ a.caches → (cache page : ℕ) → locks_of b cache page ≡ locks_of a cache page
locks-same a b same cache page = part-same (λ (t : Table). t.locks) 0 a b same cache page

-- where a page has another node, or none
pub locks-tables_with : (a b : Arena) (x : NodeName) (o : Option NodeId) → b.caches ≡ tables_with a.caches x o → (cache page : ℕ) → locks_of b cache page ≡ locks_of a cache page
locks-tables_with a b x o is cache page = part-tables_with (λ (t : Table). t.locks) 0 (λ p n t. refl) a b x o is cache page

-- where a cache went, the locks of its pages are gone, and those of others stay
pub locks-gone : (a b : Arena) (gone : CacheId) → b ≡ without_cache a gone → (page : ℕ) → locks_of b gone.0 page ≡ 0
locks-gone a b gone e page = ap (λ x. locks_of x gone.0 page) e ∙ go a.caches gone.0
  where
    left : (ts : List (Option Table)) (k : ℕ) → get_or (set ts k None) k None ≡ None
    left [] k = refl
    left (t ∷ ts) zero = refl
    left (t ∷ ts) (suc k) = left ts k

    go : (ts : List (Option Table)) (gone : ℕ) → unwrap_or (option_and_then (λ (t : Table). slice_get t.locks page) (table_at (tables_without ts gone) gone)) 0 ≡ 0
    go ts zero = refl
    go ts (suc k) = ap (λ (o : Option Table). unwrap_or (option_and_then (λ (t : Table). slice_get t.locks page) o) 0) (left ts k)

pub locks-without_cache : (a b : Arena) (gone : CacheId) → b ≡ without_cache a gone → (cache page : ℕ) → cache ≢ gone.0 → locks_of b cache page ≡ locks_of a cache page
locks-without_cache a b gone e cache page apart = ap (λ x. locks_of x cache page) e ∙ go gone.0 cache apart
  where
    go : (gone cache : ℕ) → cache ≢ gone → locks_of (record a { caches = tables_without a.caches gone }) cache page ≡ locks_of a cache page
    go zero cache ne = refl
    go (suc k) zero ne = refl
    go (suc k) (suc j) ne = ap (λ (o : Option Table). unwrap_or (option_and_then (λ (t : Table). slice_get t.locks page) o) 0) (read_other a.caches k j None (λ q. ne (ap suc q)))

-- How many pages are locked

abbrev locks_in : ℕ → Option Table → ℕ
locks_in page o = unwrap_or (option_and_then (λ (t : Table). slice_get t.locks page) o) 0

abbrev count_in : ℕ → List ℕ → ℕ
count_in page locks = unwrap_or (slice_get locks page) 0

-- where each count is the same
same_counts : (xs ys : List ℕ) → ((page : ℕ) → count_in page ys ≡ count_in page xs) → count_by is_locked ys ≡ count_by is_locked xs
same_counts [] [] same = refl
same_counts [] (y ∷ ys) same = omega (arith, sum_by-cons bit y ys, ap bit (same 0), same_counts [] ys (λ page. same (suc page)))
same_counts (x ∷ xs) [] same = omega (arith, sum_by-cons bit x xs, ap bit (same 0), same_counts xs [] (λ page. same (suc page)))
same_counts (x ∷ xs) (y ∷ ys) same = omega (arith, sum_by-cons bit x xs, sum_by-cons bit y ys, ap bit (same 0), same_counts xs ys (λ page. same (suc page)))

same_pages : (o p : Option Table) → ((page : ℕ) → locks_in page p ≡ locks_in page o) → locked_pages p ≡ locked_pages o
same_pages None None same = refl
same_pages None (Some u) same = same_counts [] u.locks (λ page. same page)
same_pages (Some t) None same = sym (same_counts [] t.locks (λ page. sym (same page)))
same_pages (Some t) (Some u) same = same_counts t.locks u.locks (λ page. same page)

same_tables : (ts us : List (Option Table)) → ((k page : ℕ) → locks_in page (get_or us k None) ≡ locks_in page (get_or ts k None)) → sum_by locked_pages us ≡ sum_by locked_pages ts
same_tables [] [] same = refl
same_tables [] (u ∷ us) same = omega (arith, sum_by-cons locked_pages u us, same_pages None u (same 0), same_tables [] us (λ k. same (suc k)))
same_tables (t ∷ ts) [] same = omega (arith, sum_by-cons locked_pages t ts, same_pages t None (same 0), same_tables ts [] (λ k. same (suc k)))
same_tables (t ∷ ts) (u ∷ us) same = omega (arith, sum_by-cons locked_pages t ts, sum_by-cons locked_pages u us, same_pages t u (same 0), same_tables ts us (λ k. same (suc k)))

-- where the locks of all pages stay
pub locked_count_stays : (a b : Arena) → ((cache page : ℕ) → locks_of b cache page ≡ locks_of a cache page) → locked_count b ≡ locked_count a
locked_count_stays a b same = same_tables a.caches b.caches (λ k page. same (suc k) page)

-- the table of the cache that was changed
table_changed : (ts : List (Option Table)) (at : ℕ) (change : Table → Table) → table_at (changed_at ts at change) at ≡ option_map change (table_at ts at)
table_changed ts zero change = refl
table_changed ts (suc k) change = read_set ts k change

-- where one page has other locks
module _ (a b : Arena) (cache page count : ℕ) (e : b ≡ with_locks a cache page count) (now : locks_of b cache page ≡ count) where
  table_then : table_of b cache ≡ option_map (table_locking page count) (table_of a cache)
  table_then = ap (λ (x : Arena). table_of x cache) e ∙ table_changed a.caches cache (table_locking page count)

  -- where there is no such page, nothing changes
  nowhere : locks_of a cache page ≡ 0 → locks_of b cache page ≡ 0 → locked_count b + bit (locks_of a cache page) ≡ locked_count a + bit count
  nowhere was is =
      let same : locked_count b ≡ locked_count a = locked_count_stays a b (λ other place. elim (cases_eq other cache) [
        | inr d ↦ locked_other a b cache page count e other place (λ q r. d q)
        | inl q ↦ elim (cases_eq place page) [
          | inr d ↦ locked_other a b cache page count e other place (λ p r. d r)
          | inl r ↦ (λ i. locks_of b (q i) (r i)) ∙ is ∙ sym ((λ i. locks_of a (q i) (r i)) ∙ was)
        ]
      ]) in
      omega (arith, same, ap bit was, ap bit (sym now ∙ is))

  pub locked_count_set : locked_count b + bit (locks_of a cache page) ≡ locked_count a + bit count
  locked_count_set = go (table_of a cache) refl
    where
      go : (o : Option Table) → table_of a cache ≡ o → locked_count b + bit (locks_of a cache page) ≡ locked_count a + bit count
      go None at = nowhere (ap (locks_in page) at) (ap (locks_in page) (table_then ∙ ap (option_map (table_locking page count)) at))
      go (Some t) at = elim (slice_get_cases t.locks page).1 [
        | inl w ↦ omega (arith, ap locked_count e, locked_set a.caches cache page count t at w.1, ap (λ (o : Option ℕ). bit (unwrap_or o 0)) (slice_get-get_or t.locks page 0 w.1), ap (λ (o : Option Table). bit (locks_in page o)) at)
        | inr w ↦ nowhere (ap (locks_in page) at ∙ ap (λ (o : Option ℕ). unwrap_or o 0) w.1)
            (ap (locks_in page) (table_then ∙ ap (option_map (table_locking page count)) at)
            ∙ ap (λ (o : Option ℕ). unwrap_or o 0) (slice_get_past (set t.locks page count) page (omega (arith, w.0, length-set t.locks page count))))
      ]

-- a page that isn't locked counts as one that isn't
spare : (n : ℕ) → (if is_locked n then 0 else 1) + bit n ≡ 1
spare zero = omega arith
spare (suc n) = omega arith

bit_more : (n : ℕ) → bit (n + 1) ≡ 1
bit_more n = ap bit (add-one n)

-- one lock more
pub locked_count_more : (a b : Arena) (cache page : ℕ) → b ≡ with_locks a cache page (locks_of a cache page + 1) → locks_of b cache page ≡ locks_of a cache page + 1 → locked_count b ≡ locked_count a + (if is_locked (locks_of a cache page) then 0 else 1)
locked_count_more a b cache page e now = omega (arith, locked_count_set a b cache page (locks_of a cache page + 1) e now, bit_more (locks_of a cache page), spare (locks_of a cache page))

-- one lock less
pub locked_count_less : (a b : Arena) (cache page : ℕ) → b ≡ with_locks a cache page (locks_of a cache page - 1) → locks_of b cache page + 1 ≡ locks_of a cache page → locked_count a ≡ locked_count b + (if is_locked (locks_of b cache page) then 0 else 1)
locked_count_less a b cache page e now =
    let left : locks_of b cache page ≡ locks_of a cache page - 1 = omega (arith, now) in
    omega (arith, locked_count_set a b cache page (locks_of a cache page - 1) e left, ap bit (sym left), ap bit (sym now), bit_more (locks_of b cache page), spare (locks_of b cache page))
