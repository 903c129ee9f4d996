-- How many pages of an extent have no lock, and how many pages are locked with its locks.
use Rattle.std.proofs.Common.{◌≡◌, ◌≢◌, ℕ, zero, suc, ◌+◌, ◌-◌, ◌<◌, ◌≤◌, ◌&&◌, not, Bool, true, false, List, [], ◌∷◌, get_or, count_by, sum_by, Option, Some, None, unwrap_or, slice_get, refl, sym, ap, ◌∙◌, arith, inl, inr}
use Rattle.std.specs.Prelude.{nat_le, nat_lt, option_and_then}
use Rattle.std.specs.List.{range_with_len}
use Rattle.std.proofs.lemmas.Bool.{cases_lt, eq-eqb, le-leb, le-ltb, lt-leb, lt-ltb}
use Rattle.std.proofs.lemmas.List.Sums.{sum_by-cons}
use Rattle.vm_ids.specs.declared.command.Extent.{Extent}
use Rattle.vm_ids.specs.declared.numbers.CacheId.{CacheId}
use Rattle.vm_ids.proofs.Places.{bit}
use Rattle.local_cache.specs.Arena.{Arena, Table, is_locked, locked_count, locked_pages, locks_of}
use Rattle.pvm_core.specs.Holding.{LocksMore, covers, unlocked_in}
use Rattle.pvm_core.proofs.Locking.Counted.{count_at}
use Rattle.pvm_core.proofs.Locking.Extents.{covers_no, extent}

-- How many pages are locked then

abbrev unlocked_at : List ℕ → ℕ → ℕ → ℕ
unlocked_at xs first n = count_by (λ q. not (is_locked (count_at xs q))) (range_with_len first n)

abbrev inside : ℕ → ℕ → ℕ → Bool
inside first n q = nat_le first q && nat_lt q (first + n)

-- the numbers of a range, each one more
shifted : (g : ℕ → Bool) (first n : ℕ) → count_by g (range_with_len (suc first) n) ≡ count_by (λ q. g (suc q)) (range_with_len first n)
shifted g first zero = refl
shifted g first (suc n) =
    let next : suc first + 1 ≡ suc (first + 1) = omega arith in
    omega (arith, sum_by-cons (λ y. bit (g y)) (suc first) (range_with_len (suc first + 1) n), sum_by-cons (λ y. bit (g (suc y))) first (range_with_len (first + 1) n), ap (λ k. count_by g (range_with_len k n)) next, shifted g (first + 1) n)

shift_in : (first n q : ℕ) → inside (suc first) n (suc q) ≡ inside first n q
shift_in first n q = (λ i. le i && lt i)
  where
    le : nat_le (suc first) (suc q) ≡ nat_le first q
    le = elim (cases_lt q first) [
      | inl low ↦ lt-leb (suc first) (suc q) (omega (arith, low)) ∙ sym (lt-leb first q low)
      | inr high ↦ le-leb (suc first) (suc q) (omega (arith, high)) ∙ sym (le-leb first q high)
    ]

    lt : nat_lt (suc q) (suc first + n) ≡ nat_lt q (first + n)
    lt = elim (cases_lt q (first + n)) [
      | inl low ↦ lt-ltb (suc q) (suc first + n) (omega (arith, low)) ∙ sym (lt-ltb q (first + n) low)
      | inr high ↦ le-ltb (suc q) (suc first + n) (omega (arith, high)) ∙ sym (le-ltb q (first + n) high)
    ]

-- where none is inside
inside_none : (first q : ℕ) → inside first 0 q ≡ false
inside_none first q = elim (cases_lt q first) [
  | inl low ↦ ap (λ b. b && nat_lt q (first + 0)) (lt-leb first q low)
  | inr high ↦ (λ i. le-leb first q high i && le-ltb q (first + 0) (omega (arith, high)) i)
]

inside_first : (first n : ℕ) → inside first (suc n) first ≡ true
inside_first first n = (λ i. le-leb first first (omega arith) i && lt-ltb first (first + suc n) (omega arith) i)

inside_more : (n q : ℕ) → inside 0 (suc n) (suc q) ≡ inside 0 n q
inside_more n q = (λ i. le i && lt i)
  where
    le : nat_le 0 (suc q) ≡ nat_le 0 q
    le = le-leb 0 (suc q) (omega arith) ∙ sym (le-leb 0 q (omega arith))

    lt : nat_lt (suc q) (0 + suc n) ≡ nat_lt q (0 + n)
    lt = elim (cases_lt q n) [
      | inl low ↦ lt-ltb (suc q) (0 + suc n) (omega (arith, low)) ∙ sym (lt-ltb q (0 + n) (omega (arith, low)))
      | inr high ↦ le-ltb (suc q) (0 + suc n) (omega (arith, high)) ∙ sym (le-ltb q (0 + n) (omega (arith, high)))
    ]

locked_or : (n : ℕ) → bit (is_locked n) + bit (not (is_locked n)) ≡ 1
locked_or zero = omega arith
locked_or (suc n) = omega arith

pub locked_now : (n : ℕ) → is_locked (n + 1) ≡ true
locked_now n = let e : n + 1 ≡ suc n = omega arith in ap is_locked e

pub locked_above : (n : ℕ) → 0 < n → is_locked n ≡ true
locked_above zero some = absurd (omega (arith, some))
locked_above (suc n) some = refl

abbrev more_at : (first n : ℕ) (xs ys : List ℕ) → Type 0
more_at first n xs ys = (q : ℕ) → count_at ys q ≡ count_at xs q + bit (inside first n q)

abbrev grows : (first n : ℕ) (xs ys : List ℕ) → Type 0
grows first n xs ys = count_by is_locked ys ≡ count_by is_locked xs + unlocked_at xs first n

-- a count of each list, and the others
grown : (first n x y : ℕ) (xs ys : List ℕ) → more_at first n (x ∷ xs) (y ∷ ys) → ((f k : ℕ) → more_at f k xs ys → grows f k xs ys) → grows first n (x ∷ xs) (y ∷ ys)
grown zero zero x y xs ys same rest =
    let head : y ≡ x = omega (arith, same 0, ap bit (inside_none 0 0)) in
    let tail = rest 0 0 (λ q. omega (arith, same (suc q), ap bit (inside_none 0 (suc q)), ap bit (inside_none 0 q))) in
    omega (arith, sum_by-cons (λ k. bit (is_locked k)) y ys, sum_by-cons (λ k. bit (is_locked k)) x xs, ap (λ k. bit (is_locked k)) head, tail)
grown zero (suc n) x y xs ys same rest =
    let head : y ≡ x + 1 = omega (arith, same 0, ap bit (inside_first 0 n)) in
    let tail = rest 0 n (λ q. omega (arith, same (suc q), ap bit (inside_more n q))) in
    let g : ℕ → Bool = λ q. not (is_locked (count_at (x ∷ xs) q)) in
    omega (arith, sum_by-cons (λ k. bit (is_locked k)) y ys, sum_by-cons (λ k. bit (is_locked k)) x xs, ap (λ k. bit (is_locked k)) head, ap bit (locked_now x), locked_or x, sum_by-cons (λ k. bit (g k)) 0 (range_with_len 1 n), shifted g 0 n, tail)
grown (suc f) n x y xs ys same rest =
    let out : inside (suc f) n 0 ≡ false = ap (λ b. b && nat_lt 0 (suc f + n)) (lt-leb (suc f) 0 (omega arith)) in
    let head : y ≡ x = omega (arith, same 0, ap bit out) in
    let tail = rest f n (λ q. omega (arith, same (suc q), ap bit (shift_in f n q))) in
    omega (arith, sum_by-cons (λ k. bit (is_locked k)) y ys, sum_by-cons (λ k. bit (is_locked k)) x xs, ap (λ k. bit (is_locked k)) head, shifted (λ q. not (is_locked (count_at (x ∷ xs) q))) f n, tail)

-- a list that is empty counts as one of a 0
padded : (q : ℕ) → count_at (0 ∷ []) q ≡ count_at [] q
padded zero = refl
padded (suc q) = refl

counts_more : (xs ys : List ℕ) (first n : ℕ) → more_at first n xs ys → grows first n xs ys
counts_more [] [] first zero same = refl
counts_more [] [] first (suc n) same = absurd (omega (arith, same first, ap bit (inside_first first n)))
counts_more [] (y ∷ ys) first n same =
    let as_one = grown first n 0 y [] ys (λ q. omega (arith, same q, padded q)) (λ f k s. counts_more [] ys f k s) in
    omega (arith, as_one, sum_by-cons (λ k. bit (is_locked k)) 0 [], ap (λ (g : ℕ → ℕ). count_by (λ q. not (is_locked (g q))) (range_with_len first n)) (λ i q. padded q i))
counts_more (x ∷ xs) [] first n same =
    let as_one = grown first n x 0 xs [] (λ q. omega (arith, same q, padded q)) (λ f k s. counts_more xs [] f k s) in
    omega (arith, as_one, sum_by-cons (λ k. bit (is_locked k)) 0 [])
counts_more (x ∷ xs) (y ∷ ys) first n same = grown first n x y xs ys same (λ f k s. counts_more xs ys f k s)

-- Ranges

-- one number more
pub range_next : (g : ℕ → Bool) (a n : ℕ) → count_by g (range_with_len a (n + 1)) ≡ count_by g (range_with_len a n) + bit (g (a + n))
range_next g a zero = let here : a ≡ a + 0 = omega arith in omega (arith, sum_by-cons (λ y. bit (g y)) a [], ap (λ j. bit (g j)) here)
range_next g a (suc n) =
    let e : suc n + 1 ≡ suc (n + 1) = omega arith in
    let here : a + 1 + n ≡ a + suc n = omega arith in
    omega (arith, ap (λ k. count_by g (range_with_len a k)) e, sum_by-cons (λ y. bit (g y)) a (range_with_len (a + 1) (n + 1)), sum_by-cons (λ y. bit (g y)) a (range_with_len (a + 1) n), range_next g (a + 1) n, ap (λ j. bit (g j)) here)

-- the first of them are no more
pub range_fewer : (g : ℕ → Bool) (a n k : ℕ) → n ≤ k → count_by g (range_with_len a n) ≤ count_by g (range_with_len a k)
range_fewer g a zero k low = omega arith
range_fewer g a (suc n) zero low = absurd (omega (arith, low))
range_fewer g a (suc n) (suc k) low = omega (arith, sum_by-cons (λ y. bit (g y)) a (range_with_len (a + 1) n), sum_by-cons (λ y. bit (g y)) a (range_with_len (a + 1) k), range_fewer g (a + 1) n k (omega (arith, low)))

-- of the pages of an extent, up to a page
pub unlocked_upto : (a : Arena) (cache : CacheId) (first page : ℕ) → first ≤ page → unlocked_in a (extent cache first (page + 1 - first)) ≡ unlocked_in a (extent cache first (page - first)) + bit (not (is_locked (locks_of a cache.0 page)))
unlocked_upto a cache first page low =
    let g : ℕ → Bool = λ q. not (is_locked (locks_of a cache.0 q)) in
    let next : page - first + 1 ≡ page + 1 - first = omega (arith, low) in
    let here : first + (page - first) ≡ page = omega (arith, low) in
    ap (λ n. count_by g (range_with_len first n)) (sym next) ∙ range_next g first (page - first) ∙ ap (λ k. count_by g (range_with_len first (page - first)) + bit (g k)) here

-- Of tables

abbrev locks_in : ℕ → Option Table → ℕ
locks_in q o = unwrap_or (option_and_then (λ (t : Table). slice_get t.locks q) o) 0

abbrev unlocked_of : Option Table → ℕ → ℕ → ℕ
unlocked_of o first n = count_by (λ q. not (is_locked (locks_in q o))) (range_with_len first n)

table_more : (o p : Option Table) (first n : ℕ) → ((q : ℕ) → locks_in q p ≡ locks_in q o + bit (inside first n q)) → locked_pages p ≡ locked_pages o + unlocked_of o first n
table_more None None first n same = counts_more [] [] first n same
table_more None (Some u) first n same = counts_more [] u.locks first n same
table_more (Some t) None first n same = counts_more t.locks [] first n same
table_more (Some t) (Some u) first n same = counts_more t.locks u.locks first n same

table_same : (o p : Option Table) → ((q : ℕ) → locks_in q p ≡ locks_in q o) → locked_pages p ≡ locked_pages o
table_same o p same = omega (arith, table_more o p 0 0 (λ q. omega (arith, same q, ap bit (inside_none 0 q))))

tables_same : (ts us : List (Option Table)) → ((j q : ℕ) → locks_in q (get_or us j None) ≡ locks_in q (get_or ts j None)) → sum_by locked_pages us ≡ sum_by locked_pages ts
tables_same [] [] same = refl
tables_same [] (u ∷ us) same = omega (arith, sum_by-cons locked_pages u us, table_same None u (same 0), tables_same [] us (λ j. same (suc j)))
tables_same (t ∷ ts) [] same = omega (arith, sum_by-cons locked_pages t ts, table_same t None (same 0), tables_same ts [] (λ j. same (suc j)))
tables_same (t ∷ ts) (u ∷ us) same = omega (arith, sum_by-cons locked_pages t ts, sum_by-cons locked_pages u us, table_same t u (same 0), tables_same ts us (λ j. same (suc j)))

-- the table at this place has more locks, and others have as many
pub record MoreAt (k first n : ℕ) (ts us : List (Option Table)) : Type 0 where
  pub here : (q : ℕ) → locks_in q (get_or us k None) ≡ locks_in q (get_or ts k None) + bit (inside first n q)
  pub others : (j q : ℕ) → j ≢ k → locks_in q (get_or us j None) ≡ locks_in q (get_or ts j None)

no_zero : (k : ℕ) → zero ≢ suc k
no_zero k e = absurd (omega (arith, e))

both_more : (k first n : ℕ) (t u : Option Table) (ts us : List (Option Table)) → MoreAt k first n (t ∷ ts) (u ∷ us) → ((j : ℕ) → MoreAt j first n ts us → sum_by locked_pages us ≡ sum_by locked_pages ts + unlocked_of (get_or ts j None) first n)
    → sum_by locked_pages (u ∷ us) ≡ sum_by locked_pages (t ∷ ts) + unlocked_of (get_or (t ∷ ts) k None) first n
both_more zero first n t u ts us more rest =
    let tail = tables_same ts us (λ j q. more.others (suc j) q (λ e. no_zero j (sym e))) in
    omega (arith, sum_by-cons locked_pages t ts, sum_by-cons locked_pages u us, table_more t u first n more.here, tail)
both_more (suc k) first n t u ts us more rest =
    let head = table_same t u (λ q. more.others 0 q (no_zero k)) in
    let tail = rest k (record { here = more.here; others = λ j q d. more.others (suc j) q (λ e. d (omega (arith, e))) }) in
    omega (arith, sum_by-cons locked_pages t ts, sum_by-cons locked_pages u us, head, tail)

abbrev no_table : Option Table
no_table = None

pad : (j : ℕ) → get_or (no_table ∷ []) j None ≡ None
pad zero = refl
pad (suc j) = refl

tables_more : (ts us : List (Option Table)) (k first n : ℕ) → MoreAt k first n ts us → sum_by locked_pages us ≡ sum_by locked_pages ts + unlocked_of (get_or ts k None) first n
tables_more [] [] k first n more = table_more None None first n more.here
tables_more [] (u ∷ us) k first n more =
    let as_one = both_more k first n None u [] us (record { here = λ q. more.here q ∙ ap (λ (o : Option Table). locks_in q o + bit (inside first n q)) (sym (pad k)); others = λ j q d. more.others j q d ∙ ap (locks_in q) (sym (pad j)) }) (λ j m. tables_more [] us j first n m) in
    omega (arith, as_one, sum_by-cons locked_pages None [], ap (λ (o : Option Table). unlocked_of o first n) (pad k))
tables_more (t ∷ ts) [] k first n more =
    let as_one = both_more k first n t None ts [] (record { here = λ q. ap (locks_in q) (pad k) ∙ more.here q; others = λ j q d. ap (locks_in q) (pad j) ∙ more.others j q d }) (λ j m. tables_more ts [] j first n m) in
    omega (arith, as_one, sum_by-cons locked_pages None [])
tables_more (t ∷ ts) (u ∷ us) k first n more = both_more k first n t u ts us more (λ j m. tables_more ts us j first n m)

-- The locks of an extent: so many pages more are locked as had no lock.
pub locked_more : (a b : Arena) (e : Extent) → LocksMore e a b → locked_count b ≡ locked_count a + unlocked_in a e
locked_more a b e more = go e.cache.0 refl
  where
    covered_in : (c q : ℕ) → e.cache.0 ≡ c → covers e c q ≡ inside e.first.0 e.pages q
    covered_in c q is = ap (λ t. t && nat_le e.first.0 q && nat_lt q (e.first.0 + e.pages)) (eq-eqb e.cache.0 c is)

    others : (c q : ℕ) → c ≢ e.cache.0 → locks_of b c q ≡ locks_of a c q
    others c q d = (let no = covers_no e c q (λ k. d (sym k.same)) in omega (arith, more c q, ap bit no))

    go : (c : ℕ) → e.cache.0 ≡ c → locked_count b ≡ locked_count a + unlocked_in a e
    go zero is =
        let none : (q : ℕ) → 0 ≡ 0 + bit (inside e.first.0 e.pages q) = λ q. more 0 q ∙ ap (λ t. 0 + bit t) (covered_in 0 q is) in
        let same = tables_same a.caches b.caches (λ j q. others (suc j) q (λ f. no_zero j (sym (f ∙ is)))) in
        let zeroth = table_more None None e.first.0 e.pages none in
        omega (arith, same, zeroth, ap (λ k. count_by (λ q. not (is_locked (locks_of a k q))) (range_with_len e.first.0 e.pages)) is)
    go (suc k) is =
        let here = tables_more a.caches b.caches k e.first.0 e.pages (record {
          here = λ q. more (suc k) q ∙ ap (λ t. locks_of a (suc k) q + bit t) (covered_in (suc k) q is);
          others = λ j q d. others (suc j) q (λ f. d (let g : suc j ≡ suc k = f ∙ is in omega (arith, g)));
        }) in
        omega (arith, here, ap (λ k. count_by (λ q. not (is_locked (locks_of a k q))) (range_with_len e.first.0 e.pages)) is)

-- No page has more locks

bit_fewer : (x y : ℕ) → y ≤ x → bit (is_locked y) ≤ bit (is_locked x)
bit_fewer zero zero low = omega arith
bit_fewer zero (suc y) low = absurd (omega (arith, low))
bit_fewer (suc x) zero low = omega arith
bit_fewer (suc x) (suc y) low = omega arith

counts_fewer : (xs ys : List ℕ) → ((q : ℕ) → count_at ys q ≤ count_at xs q) → count_by is_locked ys ≤ count_by is_locked xs
counts_fewer [] [] low = omega arith
counts_fewer [] (y ∷ ys) low = omega (arith, sum_by-cons (λ k. bit (is_locked k)) y ys, bit_fewer 0 y (low 0), counts_fewer [] ys (λ q. low (suc q)))
counts_fewer (x ∷ xs) [] low = omega (arith, sum_by-cons (λ k. bit (is_locked k)) x xs)
counts_fewer (x ∷ xs) (y ∷ ys) low = omega (arith, sum_by-cons (λ k. bit (is_locked k)) x xs, sum_by-cons (λ k. bit (is_locked k)) y ys, bit_fewer x y (low 0), counts_fewer xs ys (λ q. low (suc q)))

table_fewer : (o p : Option Table) → ((q : ℕ) → locks_in q p ≤ locks_in q o) → locked_pages p ≤ locked_pages o
table_fewer None None low = omega arith
table_fewer None (Some u) low = counts_fewer [] u.locks low
table_fewer (Some t) None low = omega arith
table_fewer (Some t) (Some u) low = counts_fewer t.locks u.locks low

tables_fewer : (ts us : List (Option Table)) → ((j q : ℕ) → locks_in q (get_or us j None) ≤ locks_in q (get_or ts j None)) → sum_by locked_pages us ≤ sum_by locked_pages ts
tables_fewer [] [] low = omega arith
tables_fewer [] (u ∷ us) low = omega (arith, sum_by-cons locked_pages u us, table_fewer None u (low 0), tables_fewer [] us (λ j. low (suc j)))
tables_fewer (t ∷ ts) [] low = omega (arith, sum_by-cons locked_pages t ts)
tables_fewer (t ∷ ts) (u ∷ us) low = omega (arith, sum_by-cons locked_pages t ts, sum_by-cons locked_pages u us, table_fewer t u (low 0), tables_fewer ts us (λ j. low (suc j)))

pub locked_fewer : (a b : Arena) → ((cache page : ℕ) → locks_of b cache page ≤ locks_of a cache page) → locked_count b ≤ locked_count a
locked_fewer a b low = tables_fewer a.caches b.caches (λ j. low (suc j))
