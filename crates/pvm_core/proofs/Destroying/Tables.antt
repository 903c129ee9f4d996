-- Tables without that of a cache.
use Rattle.std.proofs.Common.{◌≡◌, ◌≢◌, ℕ, zero, suc, ◌+◌, ◌-◌, List, [], ◌∷◌, get_or, set, length, Option, Some, None, option_map, refl, ap, arith}
use Rattle.std.specs.Prelude.{sum_by}
use Rattle.std.proofs.lemmas.List.Sums.{sum_by-cons}
use Rattle.local_cache.specs.Arena.{Table, page_count, table_at, tables_without}

abbrev size : Option Table → Option ℕ
size o = option_map (λ (t : Table). length t.pages) o

count_is : (o : Option Table) (n : ℕ) → size o ≡ Some n → page_count o ≡ n
count_is None n e = absurd (cc e)
count_is (Some t) n e = cc e

left_at : (ts : List (Option Table)) (k n : ℕ) → size (get_or ts k None) ≡ Some n → sum_by page_count (set ts k None) + n ≡ sum_by page_count ts
left_at [] k n e = absurd (cc e)
left_at (t ∷ ts) zero n e = omega (arith, sum_by-cons page_count None ts, sum_by-cons page_count t ts, count_is t n e)
left_at (t ∷ ts) (suc k) n e = omega (arith, sum_by-cons page_count t (set ts k None), sum_by-cons page_count t ts, left_at ts k n e)

pub left : (ts : List (Option Table)) (c n : ℕ) → size (table_at ts c) ≡ Some n → sum_by page_count (tables_without ts c) + n ≡ sum_by page_count ts
left ts zero n e = absurd (cc e)
left ts (suc k) n e = left_at ts k n e

other_get : (ts : List (Option Table)) (k j : ℕ) → j ≢ k → get_or (set ts k None) j None ≡ get_or ts j None
other_get [] k j d = refl
other_get (t ∷ ts) zero zero d = absurd (d refl)
other_get (t ∷ ts) zero (suc j) d = refl
other_get (t ∷ ts) (suc k) zero d = refl
other_get (t ∷ ts) (suc k) (suc j) d = other_get ts k j (λ e. d (ap suc e))

pub other_table : (ts : List (Option Table)) (c n : ℕ) → n ≢ c → table_at (tables_without ts c) n ≡ table_at ts n
other_table ts zero n d = refl
other_table ts (suc k) zero d = refl
other_table ts (suc k) (suc j) d = other_get ts k j (λ e. d (ap suc e))

pub gone : (ts : List (Option Table)) (c : ℕ) → table_at (tables_without ts c) c ≡ None
gone ts zero = refl
gone ts (suc k) = gone_at ts k
  where
    gone_at : (ts : List (Option Table)) (k : ℕ) → get_or (set ts k None) k None ≡ None
    gone_at [] k = refl
    gone_at (t ∷ ts) zero = refl
    gone_at (t ∷ ts) (suc k) = gone_at ts k

pub without_at : (ts : List (Option Table)) (c n : ℕ) → size (table_at ts c) ≡ Some n → tables_without ts c ≡ set ts (c - 1) None
without_at ts zero n e = absurd (cc e)
without_at ts (suc k) n e = ap (λ (i : ℕ). set ts i None) (let s : k ≡ suc k - 1 = omega arith in s)
