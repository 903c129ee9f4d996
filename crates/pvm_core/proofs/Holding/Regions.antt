-- Regions that lock a page, counted among those of an actor.
use Rattle.std.proofs.Common.{◌≡◌, ◌==◌, ℕ, ◌+◌, ◌-◌, ◌<◌, ◌≤◌, Bool, true, false, cond, not, List, [], ◌∷◌, ◌++◌, Some, None, refl, sym, ap, ◌∙◌, arith, inl, inr}
use Rattle.std.specs.Prelude.{◌&&◌, ◌||◌, count_by, nat_le, nat_lt}
use Rattle.std.proofs.lemmas.Bool.{cases_lt}
use Rattle.std.proofs.lemmas.Bool.Decides.{nat_tests}
use Rattle.std.proofs.lemmas.List.Sums.{sum_by-append}
use Rattle.vm_ids.specs.declared.command.Prot.{Prot}
use Rattle.vm_ids.proofs.Places.{bit, count_cons}
use Rattle.vm_model.specs.Answering.{insert_region, without_region}
use Rattle.vm_model.specs.Machine.{Actor, Region, locks}
use Rattle.vm_model.specs.Regions.{region_among, replace_region, back_of, split_at, with_prot}

-- an unlocked region covers no page with its lock
pub unlocked : (cache page : ℕ) (r : Region) → r.locked ≡ false → locks cache page r ≡ false
unlocked cache page r e = ap (λ (b : Bool). b && (r.cache == cache) && nat_le r.offset page && nat_lt page (r.offset + r.pages)) e

pub neither : (a b : Bool) → (a || b) ≡ false → (a ≡ false) × (b ≡ false)
neither true b e = absurd (cc e)
neither false b e = (refl, e)

-- Regions that are counted

module _ (q : Region → Bool) where
  counted_more : (r : Region) (rs : Actor) → q r ≡ false → count_by q (r ∷ rs) ≡ count_by q rs
  counted_more r rs e = omega (arith, count_cons q r rs, ap bit e)

  insert_at : (c : Bool) (r x : Region) (xs ys : Actor) → q r ≡ false → count_by q ys ≡ count_by q xs → count_by q (cond c (r ∷ x ∷ xs) (x ∷ ys)) ≡ count_by q (x ∷ xs)
  insert_at true r x xs ys e rest = counted_more r (x ∷ xs) e
  insert_at false r x xs ys e rest = omega (arith, count_cons q x xs, count_cons q x ys, rest)

  -- a region more that doesn't count
  pub counted_insert : (r : Region) (rs : Actor) → q r ≡ false → count_by q (insert_region r rs) ≡ count_by q rs
  counted_insert r [] e = counted_more r [] e
  counted_insert r (x ∷ xs) e = insert_at (nat_lt r.start x.start) r x xs (insert_region r xs) e (counted_insert r xs e)

  -- A region that becomes others, which count as it did

  module _ (n : ℕ) (by : Region → List Region) (r : Region) (same : count_by q (by r) ≡ bit (q r)) where
    pub replaced : (rs : Actor) → region_among n rs ≡ Some r → count_by q (replace_region n by rs) ≡ count_by q rs
    replaced [] e = absurd (cc e)
    replaced (x ∷ rs) e = go (replaced rs) (x.number == n) refl e
      where
        go : (region_among n rs ≡ Some r → count_by q (replace_region n by rs) ≡ count_by q rs) → (c : Bool) → (x.number == n) ≡ c → cond c (Some x) (region_among n rs) ≡ Some r → count_by q (cond c (by x ++ rs) (x ∷ replace_region n by rs)) ≡ count_by q (x ∷ rs)
        go rest true t e =
            let is : x ≡ r = cc e in
            let front : count_by q (by x) ≡ bit (q x) = ap (λ (y : Region). count_by q (by y)) is ∙ same ∙ ap (λ (y : Region). bit (q y)) (sym is) in
            omega (arith, sum_by-append (λ (y : Region). bit (q y)) (by x) rs, front, count_cons q x rs)
        go rest false t e = omega (arith, count_cons q x (replace_region n by rs), count_cons q x rs, rest e)

  -- A region that goes, which doesn't count

  pub none_goes : (n : ℕ) (rs : Actor) → count_by (λ (r : Region). r.number == n) rs ≡ 0 → count_by q (without_region n rs) ≡ count_by q rs
  none_goes n [] e = refl
  none_goes n (x ∷ rs) e = go (none_goes n rs) (x.number == n) refl
    where
      times : bit (x.number == n) + count_by (λ (r : Region). r.number == n) rs ≡ 0
      times = sym (count_cons (λ (r : Region). r.number == n) x rs) ∙ e

      go : (count_by (λ (r : Region). r.number == n) rs ≡ 0 → count_by q (without_region n rs) ≡ count_by q rs) → (c : Bool) → (x.number == n) ≡ c → count_by q (cond (not c) (x ∷ without_region n rs) (without_region n rs)) ≡ count_by q (x ∷ rs)
      go rest true t = absurd (omega (arith, times, ap bit t))
      go rest false t = omega (arith, count_cons q x (without_region n rs), count_cons q x rs, rest (omega (arith, times, ap bit t)))

  -- the one region with the number
  pub one_goes : (n : ℕ) (r : Region) (rs : Actor) → count_by (λ (r : Region). r.number == n) rs ≤ 1 → region_among n rs ≡ Some r → q r ≡ false → count_by q (without_region n rs) ≡ count_by q rs
  one_goes n r [] once e free = absurd (cc e)
  one_goes n r (x ∷ rs) once e free = go (λ o f. one_goes n r rs o f free) (x.number == n) refl e
    where
      times : count_by (λ (r : Region). r.number == n) (x ∷ rs) ≡ bit (x.number == n) + count_by (λ (r : Region). r.number == n) rs
      times = count_cons (λ (r : Region). r.number == n) x rs

      go : (count_by (λ (r : Region). r.number == n) rs ≤ 1 → region_among n rs ≡ Some r → count_by q (without_region n rs) ≡ count_by q rs)
          → (c : Bool) → (x.number == n) ≡ c → cond c (Some x) (region_among n rs) ≡ Some r → count_by q (cond (not c) (x ∷ without_region n rs) (without_region n rs)) ≡ count_by q (x ∷ rs)
      go rest true t e =
          let is : x ≡ r = cc e in
          none_goes n rs (omega (arith, times, once, ap bit t)) ∙ sym (counted_more x rs (ap q is ∙ free))
      go rest false t e = omega (arith, count_cons q x (without_region n rs), count_cons q x rs, rest (omega (arith, times, once)) e)

-- how many regions have the number of one that is there
pub times_some : (n : ℕ) (r : Region) (rs : Actor) → region_among n rs ≡ Some r → 1 ≤ count_by (λ (r : Region). r.number == n) rs
times_some n r [] e = absurd (cc e)
times_some n r (x ∷ rs) e = go (times_some n r rs) (x.number == n) refl e
  where
    times : count_by (λ (r : Region). r.number == n) (x ∷ rs) ≡ bit (x.number == n) + count_by (λ (r : Region). r.number == n) rs
    times = count_cons (λ (r : Region). r.number == n) x rs

    go : (region_among n rs ≡ Some r → 1 ≤ count_by (λ (r : Region). r.number == n) rs) → (c : Bool) → (x.number == n) ≡ c → cond c (Some x) (region_among n rs) ≡ Some r → 1 ≤ count_by (λ (r : Region). r.number == n) (x ∷ rs)
    go rest true t e = omega (arith, times, ap bit t)
    go rest false t e = omega (arith, times, rest e)

pub times_none : (n : ℕ) (rs : Actor) → region_among n rs ≡ None → count_by (λ (r : Region). r.number == n) rs ≡ 0
times_none n [] e = refl
times_none n (x ∷ rs) e = go (times_none n rs) (x.number == n) refl e
  where
    go : (region_among n rs ≡ None → count_by (λ (r : Region). r.number == n) rs ≡ 0) → (c : Bool) → (x.number == n) ≡ c → cond c (Some x) (region_among n rs) ≡ None → count_by (λ (r : Region). r.number == n) (x ∷ rs) ≡ 0
    go rest true t e = absurd (cc e)
    go rest false t e = omega (arith, count_cons (λ (r : Region). r.number == n) x rs, ap bit t, rest e)

-- Regions that are cut and protected

cut_at : (l c lo hi hf lb hb : Bool) → bit (lo && hi) ≡ bit (lo && hf) + bit (lb && hb) → bit (l && c && lo && hi) ≡ bit (l && c && lo && hf) + bit (l && c && lb && hb)
cut_at true true lo hi hf lb hb e = e
cut_at true false lo hi hf lb hb e = omega arith
cut_at false c lo hi hf lb hb e = omega arith

-- the numbers from o on, n of them, are the first k of them and the others
cut_numbers : (o n k p : ℕ) → k < n → bit (nat_le o p && nat_lt p (o + n)) ≡ bit (nat_le o p && nat_lt p (o + k)) + bit (nat_le (o + k) p && nat_lt p (o + k + (n - k)))
cut_numbers o n k p less = elim (cases_lt p (o + k)) [
  | inl low ↦
      let hf : nat_lt p (o + k) ≡ true = grind (arith, nat_tests) in
      let hi : nat_lt p (o + n) ≡ true = grind (arith, nat_tests) in
      let lb : nat_le (o + k) p ≡ false = grind (arith, nat_tests) in
      rw (hf, hi, lb) (omega arith)
  | inr past ↦
      let hf : nat_lt p (o + k) ≡ false = grind (arith, nat_tests) in
      let lo : nat_le o p ≡ true = grind (arith, nat_tests) in
      let lb : nat_le (o + k) p ≡ true = grind (arith, nat_tests) in
      let same : o + k + (n - k) ≡ o + n = omega arith in
      rw (hf, lo, lb, same) (omega arith)
]

-- the pages of a region that is cut are those of its parts
pub cut_counts : (cache page page_bytes pages number : ℕ) (r : Region) → pages < r.pages → count_by (locks cache page) (split_at page_bytes pages number r) ≡ bit (locks cache page r)
cut_counts cache page page_bytes pages number r less =
    let front : Region = record r { pages = pages } in
    let back : Region = back_of page_bytes pages number r in
    let row = cut_at r.locked (r.cache == cache) (nat_le r.offset page) (nat_lt page (r.offset + r.pages)) (nat_lt page (r.offset + pages)) (nat_le (r.offset + pages) page) (nat_lt page (r.offset + pages + (r.pages - pages))) (cut_numbers r.offset r.pages pages page less) in
    omega (arith, row, count_cons (locks cache page) front (back ∷ []), count_cons (locks cache page) back [])

-- and protection changes none
pub prot_counts : (cache page : ℕ) (prot : Prot) (r : Region) → count_by (locks cache page) (with_prot prot r) ≡ bit (locks cache page r)
prot_counts cache page prot r = omega (arith, count_cons (locks cache page) (record r { may_write = prot.write }) [])
