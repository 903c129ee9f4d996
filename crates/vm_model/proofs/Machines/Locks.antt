-- Locked pages counted, and a region that is locked and unlocked again.
use Rattle.std.proofs.Common.{◌≡◌, ◌==◌, ℕ, zero, suc, ◌+◌, ◌-◌, ◌<◌, ◌≤◌, Bool, true, false, cond, List, [], ◌∷◌, ◌++◌, length, get_or, take, Option, Some, None, refl, sym, ap, ◌∙◌, arith}
use Rattle.std.specs.Prelude.{count_by, is_some, option_and_then, option_map, slice_get, sum_by, ◌||◌}
use Rattle.std.specs.List.{list_any, range_with_len}
use Rattle.std.specs.Option.{option_or}
use Rattle.std.proofs.lemmas.List.{take_more}
use Rattle.std.proofs.lemmas.List.Folds.{list_any-append, list_any_at}
use Rattle.std.proofs.lemmas.List.FromFn.{get_or-range_with_len, length-range_with_len}
use Rattle.std.proofs.lemmas.List.Sums.{count_by-le-length, sum_by-take-le, sum_by_push}
use Rattle.std.proofs.lemmas.Option.{slice_get-get_or}
use Rattle.vm_ids.specs.declared.refusal.Refusal.TheVariants.{LockLimit}
use Rattle.vm_ids.specs.declared.reply.Reply.TheVariants.{Done}
use Rattle.vm_model.specs.Answering.{change_region, lock_of, passes_lock_limit, reply, unless, with_some}
use Rattle.vm_model.specs.Machine.{Machine, Cache, Region, Actor, cache_of, live_pages, locked_in, is_locked_page, numbered, pages_in}
use Rattle.vm_model.specs.Regions.{region_among, region_with, replace_in, replace_region, with_lock}
use Rattle.vm_model.proofs.Parts.ListParts.{at_some}

-- Numbers in a row, one more

pub row_more : (first n : ℕ) → range_with_len first (n + 1) ≡ range_with_len first n ++ (first + n) ∷ []
row_more first n = ap (range_with_len first) (let e : n + 1 ≡ suc n = omega arith in e) ∙ go first n
  where
    go : (first n : ℕ) → range_with_len first (suc n) ≡ range_with_len first n ++ (first + n) ∷ []
    go first zero = ap (λ (k : ℕ). k ∷ []) (let e : first ≡ first + 0 = omega arith in e)
    go first (suc n) = ap (λ ks. first ∷ ks) (go (first + 1) n ∙ ap (λ (k : ℕ). range_with_len (first + 1) n ++ k ∷ []) (let e : first + 1 + n ≡ first + suc n = omega arith in e))

pub any_more : (p : ℕ → Bool) (first n : ℕ) → list_any p (range_with_len first (n + 1)) ≡ (list_any p (range_with_len first n) || (p (first + n) || false))
any_more p first n = ap (list_any p) (row_more first n) ∙ list_any-append p (range_with_len first n) ((first + n) ∷ [])

pub any_there : (p : ℕ → Bool) (first n i : ℕ) → i < n → p (first + i) ≡ true → list_any p (range_with_len first n) ≡ true
any_there p first n i below e =
    list_any_at p (range_with_len first n) i 0 (omega (arith, length-range_with_len first n)) (ap p (get_or-range_with_len first n i 0 below) ∙ e)

pub sum_more : (f : ℕ → ℕ) (first n : ℕ) → sum_by f (range_with_len first (n + 1)) ≡ sum_by f (range_with_len first n) + f (first + n)
sum_more f first n = ap (sum_by f) (row_more first n) ∙ sum_by_push f (range_with_len first n) (first + n)

pub count_more : (p : ℕ → Bool) (n : ℕ) (here : Bool) → here ≡ p n → count_by p (range_with_len 0 (n + 1)) ≡ count_by p (range_with_len 0 n) + cond here 1 0
count_more p n here e =
    let at : 0 + n ≡ n = omega arith in
    sum_more (λ k. cond (p k) 1 0) 0 n ∙ ap (λ (b : Bool). count_by p (range_with_len 0 n) + cond b 1 0) (ap p at ∙ sym e)

-- No more pages are locked than there are

few_locked : (m : Machine) (cache : ℕ) → locked_in m cache ≤ pages_in (cache_of m cache)
few_locked m cache = omega (arith, count_by-le-length (is_locked_page m cache) (range_with_len 0 (pages_in (cache_of m cache))), length-range_with_len 0 (pages_in (cache_of m cache)))

-- the pages of one cache more
pub one_cache_more : (m : Machine) (k : ℕ) → sum_by (locked_in m) (range_with_len 1 (k + 1)) ≡ sum_by (locked_in m) (range_with_len 1 k) + locked_in m (k + 1)
one_cache_more m k = sum_more (locked_in m) 1 k ∙ ap (λ (n : ℕ). sum_by (locked_in m) (range_with_len 1 k) + locked_in m n) (let e : 1 + k ≡ k + 1 = omega arith in e)

next_cache : (cs : List (Option Cache)) (k : ℕ) → k < length cs → numbered cs (k + 1) ≡ get_or cs k None
next_cache cs k below =
    at_some cs (k + 1) (omega arith)
    ∙ ap (λ (i : ℕ). option_and_then (λ y. y) (slice_get cs i)) (let e : k + 1 - 1 ≡ k = omega arith in e)
    ∙ ap (option_and_then (λ y. y)) (slice_get-get_or cs k None below)

locked_front : (m : Machine) (k : ℕ) → k ≤ length m.caches → sum_by (locked_in m) (range_with_len 1 k) ≤ sum_by pages_in (take k m.caches)
locked_front m zero h = omega arith
locked_front m (suc k) h =
    let next : suc k ≡ k + 1 = omega arith in
    omega (
      arith,
      locked_front m k (omega arith),
      ap (λ (n : ℕ). sum_by (locked_in m) (range_with_len 1 n)) next ∙ one_cache_more m k,
      ap (λ (n : ℕ). sum_by pages_in (take n m.caches)) next ∙ ap (sum_by pages_in) (take_more m.caches k None (omega arith)) ∙ sum_by_push pages_in (take k m.caches) (get_or m.caches k None),
      few_locked m (k + 1),
      ap pages_in (next_cache m.caches k (omega arith)),
    )

-- of the first so many caches
pub locked_within : (m : Machine) (k : ℕ) → k ≤ length m.caches → sum_by (locked_in m) (range_with_len 1 k) ≤ live_pages m
locked_within m k h = omega (arith, locked_front m k h, sum_by-take-le pages_in m.caches k)

-- A lock that is taken back

module _ (n : ℕ) where
  abbrev locked_by : Bool → Region → Region
  locked_by locked r = record r { locked = locked }

  among_locked : (locked : Bool) (rs : Actor) → region_among n (replace_region n (with_lock locked) rs) ≡ option_map (locked_by locked) (region_among n rs)
  among_locked locked [] = refl
  among_locked locked (r ∷ rs) = go (r.number == n) refl (among_locked locked rs)
    where
      go : (b : Bool) → (r.number == n) ≡ b → region_among n (replace_region n (with_lock locked) rs) ≡ option_map (locked_by locked) (region_among n rs)
          → region_among n (cond b (locked_by locked r ∷ rs) (r ∷ replace_region n (with_lock locked) rs)) ≡ option_map (locked_by locked) (cond b (Some r) (region_among n rs))
      go true e rest = ap (λ (b : Bool). cond b (Some (locked_by locked r)) (region_among n rs)) e
      go false e rest = ap (λ (b : Bool). cond b (Some r) (region_among n (replace_region n (with_lock locked) rs))) e ∙ rest

  among_back : (rs : Actor) (x : Region) → region_among n rs ≡ Some x → x.locked ≡ false → replace_region n (with_lock false) (replace_region n (with_lock true) rs) ≡ rs
  among_back [] x e unlocked = refl
  among_back (r ∷ rs) x e unlocked = go (r.number == n) refl e (λ e. among_back rs x e unlocked)
    where
      go : (b : Bool) → (r.number == n) ≡ b → cond b (Some r) (region_among n rs) ≡ Some x → (region_among n rs ≡ Some x → replace_region n (with_lock false) (replace_region n (with_lock true) rs) ≡ rs)
          → replace_region n (with_lock false) (cond b (locked_by true r ∷ rs) (r ∷ replace_region n (with_lock true) rs)) ≡ r ∷ rs
      go true e found rest =
          let same : r ≡ x = cc in
          ap (λ (b : Bool). cond b (locked_by false r ∷ rs) (locked_by true r ∷ replace_region n (with_lock false) rs)) e
          ∙ ap (λ (b : Bool). locked_by b r ∷ rs) (sym (ap (λ (y : Region). y.locked) same ∙ unlocked))
      go false e found rest = ap (λ (b : Bool). cond b (locked_by false r ∷ replace_region n (with_lock true) rs) (r ∷ replace_region n (with_lock false) (replace_region n (with_lock true) rs))) e ∙ ap (λ ys. r ∷ ys) (rest found)

  in_back : (xs : List (Option Actor)) (x : Region) → region_with n xs ≡ Some x → x.locked ≡ false → replace_in n (with_lock false) (replace_in n (with_lock true) xs) ≡ xs
  in_back [] x e unlocked = refl
  in_back (None ∷ xs) x e unlocked = ap (λ ys. None ∷ ys) (in_back xs x e unlocked)
  in_back (Some rs ∷ xs) x e unlocked = go (region_among n rs) refl e (λ e. in_back xs x e unlocked)
    where
      go : (o : Option Region) → region_among n rs ≡ o → option_or o (region_with n xs) ≡ Some x → (region_with n xs ≡ Some x → replace_in n (with_lock false) (replace_in n (with_lock true) xs) ≡ xs)
          → replace_in n (with_lock false) (cond (is_some o) (Some (replace_region n (with_lock true) rs) ∷ xs) (Some rs ∷ replace_in n (with_lock true) xs)) ≡ Some rs ∷ xs
      go None e found rest = ap (λ (o : Option Region). cond (is_some o) (Some (replace_region n (with_lock false) rs) ∷ replace_in n (with_lock true) xs) (Some rs ∷ replace_in n (with_lock false) (replace_in n (with_lock true) xs))) e ∙ ap (λ ys. Some rs ∷ ys) (rest found)
      go (Some y) e found rest =
          let same : y ≡ x = cc in
          let there : region_among n (replace_region n (with_lock true) rs) ≡ Some (locked_by true y) = among_locked true rs ∙ ap (option_map (locked_by true)) e in
          ap (λ (o : Option Region). cond (is_some o) (Some (replace_region n (with_lock false) (replace_region n (with_lock true) rs)) ∷ xs) (Some (replace_region n (with_lock true) rs) ∷ replace_in n (with_lock false) xs)) there
          ∙ ap (λ ys. Some ys ∷ xs) (among_back rs x (e ∙ ap Some same) unlocked)

  -- a region that was unlocked is so again
  pub lock_taken_back : (m : Machine) (r : Region) → region_with n m.actors ≡ Some r → r.locked ≡ false → change_region (change_region m n (with_lock true)) n (with_lock false) ≡ m
  lock_taken_back m r e unlocked = ap (λ xs. record m { actors = xs }) (in_back m.actors r e unlocked)

  -- a lock that only the limit can refuse
  pub lock_row : (m : Machine) (r : Region) → region_with n m.actors ≡ Some r → r.locked ≡ false
      → lock_of m n ≡ unless (passes_lock_limit (change_region m n (with_lock true))) LockLimit m (reply Done (change_region m n (with_lock true)))
  unfolding lock_of with_some unless
  lock_row m r e unlocked = rw (e, unlocked) refl
