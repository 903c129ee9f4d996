-- The caches that segments name, in the order of their numbers.
use Rattle.std.proofs.Common.{◌≡◌, ◌≢◌, ◌==◌, ℕ, zero, suc, ◌+◌, ◌<◌, ◌≤◌, Bool, true, false, cond, List, [], ◌∷◌, ◌++◌, map, length, Option, Some, None, refl, sym, ap, subst, ◌∙◌, inl, inr, arith}
use Rattle.std.specs.Prelude.{drop, filter, not, slice_get, slice_index_or, slice_set}
use Rattle.std.specs.List.{AllByRecursion, position_from, remove}
use Rattle.std.specs.Option.{option_map_or}
use Rattle.std.proofs.lemmas.Bool.{cases_eq, eq-eqb, ne_eqb}
use Rattle.std.proofs.lemmas.Option.{get_or_from_slice_get, slice_get-get_or}
use Rattle.interface_callers.proofs.Words.{Cache, CacheId, Machine, SegId, Segments, segment_of}
use Rattle.seg_manager.specs.Inner.{first_of, first_with, named_with}
use Rattle.seg_manager.specs.Names.{AreNamed, cache_in}
use Rattle.seg_manager.specs.Tying.{AreTied, Naming, naming_of, namings}
use Rattle.seg_manager.specs.declared.tables.Kept.{Kept}
use Rattle.seg_manager.specs.declared.tables.Mapped.{Mapped}
use Rattle.seg_manager.specs.declared.tables.Named.{Named}
use Rattle.seg_manager.proofs.Lookup.Entries.{IsNaming, all_namings, named_entries, still_all}

-- What is tied to the machine is in order

abbrev DoRise : List Naming → Type 0
DoRise [] = Unit {0}
DoRise (x ∷ xs) = AllByRecursion (λ (y : Naming). x.cache < y.cache) xs × DoRise xs

later : (k : ℕ) (cs : List (Option Cache)) (xs : List Naming) → AllByRecursion (IsNaming (k + 1) cs) xs → AllByRecursion (λ (y : Naming). k < y.cache) xs
later k cs [] h = tt
later k cs (x ∷ xs) h = (let at = h.0 in omega (arith, at.2), later k cs xs h.1)

namings_rise : (k : ℕ) (cs : List (Option Cache)) → DoRise (namings k cs)
namings_rise k [] = tt
namings_rise k (None ∷ cs) = namings_rise (k + 1) cs
namings_rise k (Some c ∷ cs) = by c.segment (namings_rise (k + 1) cs)
  where
    by : (s : Option ℕ) → DoRise (namings (k + 1) cs) → DoRise (option_map_or (λ seg. (let x : Naming = record { seg = seg; cache = k } in x) ∷ []) s [] ++ namings (k + 1) cs)
    by None rest = rest
    by (Some seg) rest = (later k cs (namings (k + 1) cs) (all_namings (k + 1) cs), rest)

module _ (m : Machine) (apart : (i j seg : ℕ) → segment_of m i ≡ Some seg → segment_of m j ≡ Some seg → i ≡ j) where
  in_order : (cs : List Named) → AllByRecursion (λ (d : Named). segment_of m d.cache.0 ≡ Some d.seg.0) cs → DoRise (map naming_of cs) → AreNamed cs
  in_order [] e r = tt
  in_order (c ∷ cs) e r = (each cs e.1 r.0, in_order cs e.1 r.1)
    where
      each : (ds : List Named) → AllByRecursion (λ (d : Named). segment_of m d.cache.0 ≡ Some d.seg.0) ds → AllByRecursion (λ (y : Naming). c.cache.0 < y.cache) (map naming_of ds) → AllByRecursion (λ (d : Named). (c.cache.0 < d.cache.0) × (c.seg.0 ≢ d.seg.0)) ds
      each [] e r = tt
      each (d ∷ ds) f r =
          ((r.0, λ same. let is : c.cache.0 ≡ d.cache.0 = apart c.cache.0 d.cache.0 c.seg.0 e.0 (f.0 ∙ ap (λ (n : ℕ). Some n) (sym same)) in let less = r.0 in omega (arith, is, less)), each ds f.1 r.1)

pub tied_named : (m : Machine) (told : Option Segments) (cs : List Named) (ks : List Kept) (room : ℕ) (rs : List Mapped) → AreTied m told cs ks room rs → AreNamed cs
tied_named m told cs ks room rs t = in_order m t.apart cs (named_entries m cs t.caches) (subst DoRise (sym t.caches) (namings_rise 1 m.caches))

-- Where a cache stands

abbrev IsLater : Named → Named → Type 0
IsLater c d = (c.cache.0 < d.cache.0) × (c.seg.0 ≢ d.seg.0)

all_at : (P : Named → Type 0) (cs : List Named) (i : ℕ) (d : Named) → AllByRecursion P cs → slice_get cs i ≡ Some d → P d
all_at P [] i d h e = absurd (cc e)
all_at P (c ∷ cs) zero d h e = let is : c ≡ d = cc e in subst P is h.0
all_at P (c ∷ cs) (suc i) d h e = all_at P cs i d h.1 e

skips : (n k : ℕ) (c : Named) (cs : List Named) → c.cache.0 ≢ n → position_from (first_with n) k (c ∷ cs) ≡ position_from (first_with n) (k + 1) cs
skips n k c cs other = ap (λ (b : Bool). cond b (Some k) (position_from (first_with n) (k + 1) cs)) (ne_eqb c.cache.0 n other)

-- none before one with a lesser number has this number
pub none_below : (n : ℕ) (cs : List Named) (i k : ℕ) (d : Named) → AreNamed cs → slice_get cs i ≡ Some d → d.cache.0 < n → position_from (first_with n) k cs ≡ position_from (first_with n) (k + suc i) (drop (suc i) cs)
none_below n [] i k d a e less = absurd (cc e)
none_below n (c ∷ cs) zero k d a e less =
    skips n k c cs (λ s. let is : c ≡ d = cc e in let cd : c.cache.0 ≡ d.cache.0 = ap (λ (x : Named). x.cache.0) is in omega (arith, s, cd, less))
none_below n (c ∷ cs) (suc i) k d a e less =
    skips n k c cs (λ s. let before = all_at (IsLater c) cs i d a.0 e in omega (arith, s, before.0, less))
    ∙ none_below n cs i (k + 1) d a.1 e less
    ∙ ap (λ (j : ℕ). position_from (first_with n) j (drop (suc i) cs)) (let j : k + 1 + suc i ≡ k + suc (suc i) = omega arith in j)

pub none_before : (n : ℕ) (cs : List Named) (i : ℕ) (d : Named) → AreNamed cs → slice_get cs i ≡ Some d → d.cache.0 < n → position_from (first_with n) 0 cs ≡ position_from (first_with n) (i + 1) (drop (i + 1) cs)
none_before n cs i d a e less =
    none_below n cs i 0 d a e less
    ∙ ap (λ (j : ℕ). position_from (first_with n) j (drop (suc i) cs)) (let j : 0 + suc i ≡ i + 1 = omega arith in j)
    ∙ ap (λ (j : ℕ). position_from (first_with n) (i + 1) (drop j cs)) (let j : suc i ≡ i + 1 = omega arith in j)

-- what stands there has no lesser number
pub at_least : (n : ℕ) (cs : List Named) (i : ℕ) (other d : Named) → n ≤ (slice_index_or cs i other).cache.0 → slice_get cs i ≡ Some d → n ≤ d.cache.0
at_least n cs i other d least there = omega (arith, least, ap (λ (x : Named). x.cache.0) (get_or_from_slice_get cs i d other there))

all_greater : (n k : ℕ) (c : Named) (cs : List Named) → n < c.cache.0 → AllByRecursion (IsLater c) cs → position_from (first_with n) k cs ≡ None
all_greater n k c [] less h = refl
all_greater n k c (d ∷ cs) less h = skips n k d cs (λ s. let first = h.0 in omega (arith, s, first.0, less)) ∙ all_greater n (k + 1) c cs less h.1

-- nor one from a greater one on
pub none_above : (n : ℕ) (cs : List Named) (i k : ℕ) (d : Named) → AreNamed cs → slice_get cs i ≡ Some d → n < d.cache.0 → position_from (first_with n) k (drop i cs) ≡ None
none_above n [] i k d a e less = absurd (cc e)
none_above n (c ∷ cs) zero k d a e less =
    let is : c ≡ d = cc e in
    let cd : c.cache.0 ≡ d.cache.0 = ap (λ (x : Named). x.cache.0) is in
    skips n k c cs (λ s. omega (arith, s, cd, less)) ∙ all_greater n (k + 1) c cs (omega (arith, cd, less)) a.0
none_above n (c ∷ cs) (suc i) k d a e less = none_above n cs i k d a.1 e less

-- nor, where none has a lesser number, one from another number on
pub none_at : (c : CacheId) (cs : List Named) (i : ℕ) (other : Named) → AreNamed cs → i < length cs → ((d : Named) → slice_get cs i ≡ Some d → c.0 ≤ d.cache.0) → ((slice_index_or cs i other).cache.0 == c.0) ≡ false → position_from (first_with c.0) i (drop i cs) ≡ None
none_at c cs i other a within above apart =
    let there : slice_get cs i ≡ Some (slice_index_or cs i other) = slice_get-get_or cs i other within in
    let least : c.0 ≤ (slice_index_or cs i other).cache.0 = above (slice_index_or cs i other) there in
    none_above c.0 cs i i (slice_index_or cs i other) a there (elim (cases_eq (slice_index_or cs i other).cache.0 c.0) [
      | inl is ↦ absurd (let wrong : true ≡ false = sym (eq-eqb (slice_index_or cs i other).cache.0 c.0 is) ∙ apart in cc wrong)
      | inr off ↦ (let less : c.0 < (slice_index_or cs i other).cache.0 = omega (arith, least, off) in less)
    ])

pub none_past : (n : ℕ) (cs : List Named) (i k : ℕ) → length cs ≤ i → position_from (first_with n) k (drop i cs) ≡ None
none_past n [] zero k h = refl
none_past n [] (suc i) k h = refl
none_past n (c ∷ cs) zero k h = absurd (omega (arith, h))
none_past n (c ∷ cs) (suc i) k h = none_past n cs i k (omega (arith, h))

-- the one with this number is the first with it
pub found_there : (n : ℕ) (cs : List Named) (i k : ℕ) (d : Named) → AreNamed cs → slice_get cs i ≡ Some d → d.cache.0 ≡ n → position_from (first_with n) k cs ≡ Some (k + i)
found_there n [] i k d a e is = absurd (cc e)
found_there n (c ∷ cs) zero k d a e is =
    let same : c ≡ d = cc e in
    ap (λ (b : Bool). cond b (Some k) (position_from (first_with n) (k + 1) cs)) (eq-eqb c.cache.0 n (ap (λ (x : Named). x.cache.0) same ∙ is))
    ∙ ap (λ (j : ℕ). Some j) (let j : k ≡ k + 0 = omega arith in j)
found_there n (c ∷ cs) (suc i) k d a e is =
    skips n k c cs (λ s. let before = all_at (IsLater c) cs i d a.0 e in omega (arith, s, is, before.0))
    ∙ found_there n cs i (k + 1) d a.1 e is
    ∙ ap (λ (j : ℕ). Some j) (let j : k + 1 + i ≡ k + suc i = omega arith in j)

-- The cache of a segment

cache_later : (c : Named) (cs : List Named) (seg : ℕ) (x : CacheId) → AllByRecursion (IsLater c) cs → cache_in cs seg ≡ Some x → c.cache.0 < x.0
cache_later c [] seg x h e = absurd (cc e)
cache_later c (d ∷ cs) seg x h e = by (d.seg.0 == seg) e (cache_later c cs seg x h.1)
  where
    by : (b : Bool) → cond b (Some d.cache) (cache_in cs seg) ≡ Some x → (cache_in cs seg ≡ Some x → c.cache.0 < x.0) → c.cache.0 < x.0
    by true e rest = let is : d.cache ≡ x = cc e in let first = h.0 in omega (arith, first.0, ap (λ (y : CacheId). y.0) is)
    by false e rest = rest e

-- its first cache is the one with that number
pub first_same : (cs : List Named) (seg k : ℕ) (x : CacheId) → AreNamed cs → cache_in cs seg ≡ Some x → position_from (first_with x.0) k cs ≡ position_from (first_of seg) k cs
first_same [] seg k x a e = absurd (cc e)
first_same (c ∷ cs) seg k x a e = by (c.seg.0 == seg) refl e (first_same cs seg (k + 1) x a.1)
  where
    by : (b : Bool) → (c.seg.0 == seg) ≡ b → cond b (Some c.cache) (cache_in cs seg) ≡ Some x
        → (cache_in cs seg ≡ Some x → position_from (first_with x.0) (k + 1) cs ≡ position_from (first_of seg) (k + 1) cs) → position_from (first_with x.0) k (c ∷ cs) ≡ position_from (first_of seg) k (c ∷ cs)
    by true t e rest =
        let is : c.cache ≡ x = cc e in
        ap (λ (b : Bool). cond b (Some k) (position_from (first_with x.0) (k + 1) cs)) (eq-eqb c.cache.0 x.0 (ap (λ (y : CacheId). y.0) is))
        ∙ sym (ap (λ (b : Bool). cond b (Some k) (position_from (first_of seg) (k + 1) cs)) t)
    by false t e rest =
        skips x.0 k c cs (λ s. let less = cache_later c cs seg x a.0 e in omega (arith, s, less))
        ∙ rest e
        ∙ sym (ap (λ (b : Bool). cond b (Some k) (position_from (first_of seg) (k + 1) cs)) t)

pub first_none : (cs : List Named) (seg k : ℕ) → cache_in cs seg ≡ None → position_from (first_of seg) k cs ≡ None
first_none [] seg k e = refl
first_none (c ∷ cs) seg k e = by (c.seg.0 == seg) e (first_none cs seg (k + 1))
  where
    by : (b : Bool) → cond b (Some c.cache) (cache_in cs seg) ≡ None → (cache_in cs seg ≡ None → position_from (first_of seg) (k + 1) cs ≡ None) → cond b (Some k) (position_from (first_of seg) (k + 1) cs) ≡ None
    by true e rest = absurd (cc e)
    by false e rest = rest e

-- The cache with a number

above : (n k : ℕ) (cs : List Named) (i : ℕ) → position_from (first_with n) k cs ≡ Some i → k ≤ i
above n k [] i e = absurd (cc e)
above n k (c ∷ cs) i e = by (c.cache.0 == n) e (above n (k + 1) cs i)
  where
    by : (b : Bool) → cond b (Some k) (position_from (first_with n) (k + 1) cs) ≡ Some i → (position_from (first_with n) (k + 1) cs ≡ Some i → k + 1 ≤ i) → k ≤ i
    by true e rest = let is : k ≡ i = cc e in omega (arith, is)
    by false e rest = omega (arith, rest e)

-- it is what stands there, and it has the number
pub with_there : (n : ℕ) (cs : List Named) (i k : ℕ) (d : Named) → position_from (first_with n) k cs ≡ Some (k + i) → slice_get cs i ≡ Some d → (named_with n cs ≡ Some d) × (d.cache.0 ≡ n)
with_there n [] i k d e there = absurd (cc e)
with_there n (c ∷ cs) i k d e there = by i (c.cache.0 == n) refl e there (λ j f at. with_there n cs j (k + 1) d f at)
  where
    by : (i : ℕ) (b : Bool) → (c.cache.0 == n) ≡ b → cond b (Some k) (position_from (first_with n) (k + 1) cs) ≡ Some (k + i) → slice_get (c ∷ cs) i ≡ Some d
        → ((j : ℕ) → position_from (first_with n) (k + 1) cs ≡ Some (k + 1 + j) → slice_get cs j ≡ Some d → (named_with n cs ≡ Some d) × (d.cache.0 ≡ n)) → (named_with n (c ∷ cs) ≡ Some d) × (d.cache.0 ≡ n)
    by zero true t e there further =
        let is : c ≡ d = cc there in (
          ap (λ (b : Bool). cond b (Some c) (named_with n cs)) t ∙ ap (λ (x : Named). Some x) is,
          (elim (cases_eq c.cache.0 n) [
            | inl same ↦ ap (λ (x : Named). x.cache.0) (sym is) ∙ same
            | inr other ↦ absurd (let wrong : true ≡ false = sym t ∙ ne_eqb c.cache.0 n other in cc wrong)
          ]),
        )
    by (suc i) true t e there further = absurd (let is : k ≡ k + suc i = cc e in omega (arith, is))
    by zero false t e there further = absurd (let more = above n (k + 1) cs (k + 0) e in omega (arith, more))
    by (suc i) false t e there further =
        let rest = further i (e ∙ ap (λ (j : ℕ). Some j) (let j : k + suc i ≡ k + 1 + i = omega arith in j)) there in
        (ap (λ (b : Bool). cond b (Some c) (named_with n cs)) t ∙ rest.0, rest.1)

pub with_at : (n : ℕ) (cs : List Named) (i : ℕ) (d : Named) → position_from (first_with n) 0 cs ≡ Some i → slice_get cs i ≡ Some d → (named_with n cs ≡ Some d) × (d.cache.0 ≡ n)
with_at n cs i d e there = with_there n cs i 0 d (e ∙ ap (λ (j : ℕ). Some j) (let j : i ≡ 0 + i = omega arith in j)) there

pub with_none : (n : ℕ) (cs : List Named) (k : ℕ) → position_from (first_with n) k cs ≡ None → named_with n cs ≡ None
with_none n [] k e = refl
with_none n (c ∷ cs) k e = by (c.cache.0 == n) e (with_none n cs (k + 1))
  where
    by : (b : Bool) → cond b (Some k) (position_from (first_with n) (k + 1) cs) ≡ None → (position_from (first_with n) (k + 1) cs ≡ None → named_with n cs ≡ None) → cond b (Some c) (named_with n cs) ≡ None
    by true e rest = absurd (cc e)
    by false e rest = rest e

-- A cache comes, goes or is opened

all_set : (P : Named → Type 0) (cs : List Named) (i : ℕ) (y : Named) → AllByRecursion P cs → P y → AllByRecursion P (slice_set cs i y)
all_set P [] i y h p = tt
all_set P (c ∷ cs) zero y h p = (p, h.1)
all_set P (c ∷ cs) (suc i) y h p = (h.0, all_set P cs i y h.1 p)

alike_later : (c d : Named) → d.cache ≡ c.cache → d.seg ≡ c.seg → (es : List Named) → AllByRecursion (IsLater c) es → AllByRecursion (IsLater d) es
alike_later c d same seg [] h = tt
alike_later c d same seg (e ∷ es) h =
    let first = h.0 in
    ((omega (arith, first.0, ap (λ (x : CacheId). x.0) same), λ s. first.1 (sym (ap (λ x. x.0) seg) ∙ s)), alike_later c d same seg es h.1)

pub named_set : (cs : List Named) (i : ℕ) (x y : Named) → slice_get cs i ≡ Some x → y.cache ≡ x.cache → y.seg ≡ x.seg → AreNamed cs → AreNamed (slice_set cs i y)
named_set [] i x y e same seg a = tt
named_set (c ∷ cs) zero x y e same seg a = let is : c ≡ x = cc e in (alike_later c y (same ∙ ap (λ (z : Named). z.cache) (sym is)) (seg ∙ ap (λ (z : Named). z.seg) (sym is)) cs a.0, a.1)
named_set (c ∷ cs) (suc i) x y e same seg a =
    let there = all_at (IsLater c) cs i x a.0 e in
    (all_set (IsLater c) cs i y a.0 (omega (arith, there.0, ap (λ (z : CacheId). z.0) same), λ s. there.1 (s ∙ ap (λ z. z.0) seg)), named_set cs i x y e same seg a.1)

pub cache_set : (cs : List Named) (i : ℕ) (x y : Named) (s : ℕ) → slice_get cs i ≡ Some x → y.cache ≡ x.cache → y.seg ≡ x.seg → cache_in (slice_set cs i y) s ≡ cache_in cs s
cache_set [] i x y s e same seg = refl
cache_set (c ∷ cs) zero x y s e same seg =
    let is : c ≡ x = cc e in
    ap (λ (z : SegId). cond (z.0 == s) (Some y.cache) (cache_in cs s)) (seg ∙ ap (λ (z : Named). z.seg) (sym is))
    ∙ ap (λ (z : CacheId). cond (c.seg.0 == s) (Some z) (cache_in cs s)) (same ∙ ap (λ (z : Named). z.cache) (sym is))
cache_set (c ∷ cs) (suc i) x y s e same seg = ap (cond (c.seg.0 == s) (Some c.cache)) (cache_set cs i x y s e same seg)

absent : (c : Named) (cs : List Named) (s : ℕ) → c.seg.0 ≡ s → AllByRecursion (IsLater c) cs → cache_in cs s ≡ None
absent c [] s is h = refl
absent c (d ∷ cs) s is h =
    let first = h.0 in
    ap (λ (b : Bool). cond b (Some d.cache) (cache_in cs s)) (ne_eqb d.seg.0 s (λ e. first.1 (is ∙ sym e))) ∙ absent c cs s is h.1

last_later : (c : Named) (cs : List Named) (x : Named) → AllByRecursion (IsLater c) (cs ++ x ∷ []) → IsLater c x
last_later c [] x h = h.0
last_later c (d ∷ cs) x h = last_later c cs x h.1

pub cache_more : (cs : List Named) (x : Named) (s : ℕ) → AreNamed (cs ++ x ∷ []) → cache_in (cs ++ x ∷ []) s ≡ cond (x.seg.0 == s) (Some x.cache) (cache_in cs s)
cache_more [] x s a = refl
cache_more (c ∷ cs) x s a =
    ap (cond (c.seg.0 == s) (Some c.cache)) (cache_more cs x s a.1)
    ∙ elim (cases_eq c.seg.0 s) [
      | inl is ↦
          let last = last_later c cs x a.0 in
          ap (λ (b : Bool). cond b (Some c.cache) (cond (x.seg.0 == s) (Some x.cache) (cache_in cs s))) (eq-eqb c.seg.0 s is)
          ∙ sym ((λ i. cond (ne_eqb x.seg.0 s (λ e. last.1 (is ∙ sym e)) i) (Some x.cache) (cond (eq-eqb c.seg.0 s is i) (Some c.cache) (cache_in cs s))))
      | inr other ↦
          ap (λ (b : Bool). cond b (Some c.cache) (cond (x.seg.0 == s) (Some x.cache) (cache_in cs s))) (ne_eqb c.seg.0 s other)
          ∙ sym (ap (λ (b : Bool). cond (x.seg.0 == s) (Some x.cache) (cond b (Some c.cache) (cache_in cs s))) (ne_eqb c.seg.0 s other))
    ]

pub named_less : (p : Named → Bool) (cs : List Named) → AreNamed cs → AreNamed (filter p cs)
named_less p [] a = tt
named_less p (c ∷ cs) a = by (p c) (named_less p cs a.1)
  where
    by : (b : Bool) → AreNamed (filter p cs) → AreNamed (cond b (c ∷ filter p cs) (filter p cs))
    by true rest = (still_all (IsLater c) p cs a.0, rest)
    by false rest = rest

abbrev Others : ℕ → List Named → List Named
Others n cs = filter (λ c. not (first_with n c)) cs

others_all : (n : ℕ) (cs : List Named) (k : ℕ) → position_from (first_with n) k cs ≡ None → Others n cs ≡ cs
others_all n [] k e = refl
others_all n (c ∷ cs) k e = by (c.cache.0 == n) e (others_all n cs (k + 1))
  where
    by : (b : Bool) → cond b (Some k) (position_from (first_with n) (k + 1) cs) ≡ None → (position_from (first_with n) (k + 1) cs ≡ None → Others n cs ≡ cs) → cond (not b) (c ∷ Others n cs) (Others n cs) ≡ c ∷ cs
    by true e rest = absurd (cc e)
    by false e rest = ap (λ (ds : List Named). c ∷ ds) (rest e)

pub others_none : (n : ℕ) (cs : List Named) → None ≡ position_from (first_with n) 0 cs → cs ≡ Others n cs
others_none n cs e = sym (others_all n cs 0 (sym e))

others_step : (n : ℕ) (c : Named) (cs : List Named) → c.cache.0 ≢ n → Others n (c ∷ cs) ≡ c ∷ Others n cs
others_step n c cs other = ap (λ (b : Bool). cond (not b) (c ∷ Others n cs) (Others n cs)) (ne_eqb c.cache.0 n other)

others_first : (n : ℕ) (c : Named) (cs : List Named) → c.cache.0 ≡ n → AllByRecursion (IsLater c) cs → Others n (c ∷ cs) ≡ cs
others_first n c cs is h = ap (λ (b : Bool). cond (not b) (c ∷ Others n cs) (Others n cs)) (eq-eqb c.cache.0 n is) ∙ gone cs h
  where
    gone : (ds : List Named) → AllByRecursion (IsLater c) ds → Others n ds ≡ ds
    gone [] h = refl
    gone (d ∷ ds) h = let first = h.0 in others_step n d ds (λ s. omega (arith, s, is, first.0)) ∙ ap (λ (es : List Named). d ∷ es) (gone ds h.1)

-- what is taken out is the one with the number
pub others_there : (n : ℕ) (cs : List Named) (i : ℕ) (d : Named) → AreNamed cs → slice_get cs i ≡ Some d → d.cache.0 ≡ n → remove cs i ≡ Others n cs
others_there n [] i d a e is = absurd (cc e)
others_there n (c ∷ cs) zero d a e is = let same : c ≡ d = cc e in sym (others_first n c cs (ap (λ (x : Named). x.cache.0) same ∙ is) a.0)
others_there n (c ∷ cs) (suc i) d a e is =
    ap (λ (ds : List Named). c ∷ ds) (others_there n cs i d a.1 e is)
    ∙ sym (others_step n c cs (λ s. let before = all_at (IsLater c) cs i d a.0 e in omega (arith, s, is, before.0)))

pub cache_less : (n : ℕ) (cs : List Named) (i : ℕ) (d : Named) (s : ℕ) → AreNamed cs → slice_get cs i ≡ Some d → d.cache.0 ≡ n → cache_in (Others n cs) s ≡ cond (d.seg.0 == s) None (cache_in cs s)
cache_less n [] i d s a e is = absurd (cc e)
cache_less n (c ∷ cs) zero d s a e is =
    let same : c ≡ d = cc e in
    ap (λ (ds : List Named). cache_in ds s) (others_first n c cs (ap (λ (x : Named). x.cache.0) same ∙ is) a.0)
    ∙ by (c.seg.0 == s) refl
    ∙ ap (λ (x : Named). cond (x.seg.0 == s) None (cond (c.seg.0 == s) (Some c.cache) (cache_in cs s))) same
  where
    by : (b : Bool) → (c.seg.0 == s) ≡ b → cache_in cs s ≡ cond (c.seg.0 == s) None (cond (c.seg.0 == s) (Some c.cache) (cache_in cs s))
    by true t =
        (elim (cases_eq c.seg.0 s) [
          | inl same ↦ absent c cs s same a.0
          | inr other ↦ absurd (let wrong : true ≡ false = sym t ∙ ne_eqb c.seg.0 s other in cc wrong)
        ])
        ∙ sym (ap (λ (b : Bool). cond b None (cond b (Some c.cache) (cache_in cs s))) t)
    by false t = sym (ap (λ (b : Bool). cond b None (cond b (Some c.cache) (cache_in cs s))) t)
cache_less n (c ∷ cs) (suc i) d s a e is =
    let before = all_at (IsLater c) cs i d a.0 e in
    ap (λ (ds : List Named). cache_in ds s) (others_step n c cs (λ s. omega (arith, s, is, before.0)))
    ∙ ap (cond (c.seg.0 == s) (Some c.cache)) (cache_less n cs i d s a.1 e is)
    ∙ elim (cases_eq c.seg.0 s) [
      | inl same ↦
          ap (λ (b : Bool). cond b (Some c.cache) (cond (d.seg.0 == s) None (cache_in cs s))) (eq-eqb c.seg.0 s same)
          ∙ sym (λ j. cond (ne_eqb d.seg.0 s (λ f. before.1 (same ∙ sym f)) j) None (cond (eq-eqb c.seg.0 s same j) (Some c.cache) (cache_in cs s)))
      | inr other ↦
          ap (λ (b : Bool). cond b (Some c.cache) (cond (d.seg.0 == s) None (cache_in cs s))) (ne_eqb c.seg.0 s other)
          ∙ sym (ap (λ (b : Bool). cond (d.seg.0 == s) None (cond b (Some c.cache) (cache_in cs s))) (ne_eqb c.seg.0 s other))
    ]
