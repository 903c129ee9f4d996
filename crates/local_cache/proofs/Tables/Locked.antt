-- How many pages of all caches are locked, when one page gets other locks.
use Rattle.std.proofs.Common.{◌≡◌, ℕ, zero, suc, ◌+◌, ◌<◌, cond, List, [], ◌∷◌, length, replicate, get_or, set, count_by, sum_by, Option, Some, None, option_map, refl, ap, arith}
use Rattle.std.proofs.lemmas.List.Sums.{sum_by-cons, sum_by-set}
use Rattle.local_cache.specs.Arena.{Table, changed_at, is_locked, locked_pages, table_at, table_locking}

-- how many locked pages a page with so many locks is
abbrev pub bit : ℕ → ℕ
bit count = cond (is_locked count) 1 0

-- a list of counts, one of which is set
count_set : (locks : List ℕ) (page count : ℕ) → page < length locks → count_by is_locked (set locks page count) + bit (get_or locks page 0) ≡ count_by is_locked locks + bit count
count_set locks page count less = sum_by-set (λ (n : ℕ). bit n) locks page count 0 less

-- the tables of the caches, where that of one has other locks on a page
pub locked_set : (ts : List (Option Table)) (cache page count : ℕ) (t : Table) → table_at ts cache ≡ Some t → page < length t.locks
    → sum_by locked_pages (changed_at ts cache (table_locking page count)) + bit (get_or t.locks page 0) ≡ sum_by locked_pages ts + bit count
locked_set ts zero page count t at less = absurd (cc at)
locked_set ts (suc k) page count t at less =
    let there : k < length ts = within ts k t at in
    let old : locked_pages (get_or ts k None) ≡ count_by is_locked t.locks = ap locked_pages at in
    let new : locked_pages (option_map (table_locking page count) (get_or ts k None)) ≡ count_by is_locked (set t.locks page count) = ap (λ (o : Option Table). locked_pages (option_map (table_locking page count) o)) at in
    omega (arith, sum_by-set locked_pages ts k (option_map (table_locking page count) (get_or ts k None)) None there, old, new, count_set t.locks page count less)
  where
    within : (ts : List (Option Table)) (k : ℕ) (t : Table) → get_or ts k None ≡ Some t → k < length ts
    within [] k t at = absurd (cc at)
    within (u ∷ ts) zero t at = omega arith
    within (u ∷ ts) (suc k) t at = let rest : k < length ts = within ts k t at in omega arith

-- none is locked at first
pub none_locked : (n : ℕ) → count_by is_locked (replicate n 0) ≡ 0
none_locked zero = refl
none_locked (suc n) = omega (arith, sum_by-cons (λ (k : ℕ). bit k) 0 (replicate n 0), none_locked n)
