-- The caches that segments name, as they are noted, where one of them goes.
use Rattle.std.proofs.Common.{◌≡◌, ◌≢◌, ◌==◌, ℕ, zero, suc, ◌+◌, ◌-◌, ◌<◌, ◌≤◌, Bool, true, false, cond, List, [], ◌∷◌, ◌++◌, length, set, map, filter, Option, Some, None, refl, sym, ap, subst, ◌∙◌, arith, inl, inr}
use Rattle.std.specs.Prelude.{not, option_and_then, slice_get}
use Rattle.std.specs.List.{AllByRecursion}
use Rattle.std.specs.Option.{option_map_or}
use Rattle.std.proofs.lemmas.Bool.{cases_eq, eq-eqb, eqb-true, ne_eqb}
use Rattle.vm_model.proofs.Parts.Pairs.{each_append, each_by}
use Rattle.vm_model.proofs.Parts.ListParts.{at_some}
use Rattle.interface_callers.proofs.Words.{Cache, Machine, cache_of, segment_of}
use Rattle.seg_manager.specs.Seen.{openings_in}
use Rattle.seg_manager.specs.Tying.{Naming, naming_at, naming_of, namings}
use Rattle.seg_manager.specs.declared.tables.Named.{Named}

-- Functions with the same values are the same.
pub fun_same : {A B : Type 0} (f g : A → B) → ((x : A) → f x ≡ g x) → f ≡ g
fun_same f g h = λ i x. h x i

-- Lists

pub all_of_map : {A B : Type 0} (P : B → Type 0) (f : A → B) (xs : List A) → AllByRecursion P (map f xs) → AllByRecursion (λ x. P (f x)) xs
all_of_map P f [] h = tt
all_of_map P f (x ∷ xs) h = (h.0, all_of_map P f xs h.1)

pub filter_all : {A : Type 0} (p : A → Bool) (xs : List A) → AllByRecursion (λ x. p x ≡ true) xs → filter p xs ≡ xs
filter_all p [] h = refl
filter_all p (x ∷ xs) h = (λ i. cond (h.0 i) (x ∷ filter p xs) (filter p xs)) ∙ ap (λ ys. x ∷ ys) (filter_all p xs h.1)

pub filter_append : {A : Type 0} (p : A → Bool) (xs ys : List A) → filter p (xs ++ ys) ≡ filter p xs ++ filter p ys
filter_append p [] ys = refl
filter_append {A} p (x ∷ xs) ys = by (p x) (filter_append p xs ys)
  where
    by : (b : Bool) → filter p (xs ++ ys) ≡ filter p xs ++ filter p ys → cond b (x ∷ filter p (xs ++ ys)) (filter p (xs ++ ys)) ≡ cond b (x ∷ filter p xs) (filter p xs) ++ filter p ys
    by true e = ap (λ zs. x ∷ zs) e
    by false e = e

pub map_filter : {A B : Type 0} (p : B → Bool) (f : A → B) (xs : List A) → map f (filter (λ x. p (f x)) xs) ≡ filter p (map f xs)
map_filter p f [] = refl
map_filter {A} {B} p f (x ∷ xs) = by (p (f x)) (map_filter p f xs)
  where
    by : (b : Bool) → map f (filter (λ x. p (f x)) xs) ≡ filter p (map f xs) → map f (cond b (x ∷ filter (λ x. p (f x)) xs) (filter (λ x. p (f x)) xs)) ≡ cond b (f x ∷ filter p (map f xs)) (filter p (map f xs))
    by true e = ap (λ zs. f x ∷ zs) e
    by false e = e

pub still_all : {A : Type 0} (P : A → Type 0) (p : A → Bool) (xs : List A) → AllByRecursion P xs → AllByRecursion P (filter p xs)
still_all P p [] h = tt
still_all {A} P p (x ∷ xs) h = by (p x) (still_all P p xs h.1)
  where
    by : (b : Bool) → AllByRecursion P (filter p xs) → AllByRecursion P (cond b (x ∷ filter p xs) (filter p xs))
    by true rest = (h.0, rest)
    by false rest = rest

pub filter_few : {A : Type 0} (p : A → Bool) (xs : List A) → length (filter p xs) ≤ length xs
filter_few p [] = omega arith
filter_few p (x ∷ xs) = by (p x) (filter_few p xs)
  where
    by : (b : Bool) → length (filter p xs) ≤ length xs → length (cond b (x ∷ filter p xs) (filter p xs)) ≤ suc (length xs)
    by true e = omega (arith, e)
    by false e = omega (arith, e)

-- What is noted

-- so a cache is noted that a segment names; the first of these caches has this number
abbrev pub IsNaming : ℕ → List (Option Cache) → Naming → Type 0
IsNaming k cs x = (i : ℕ) × (c : Cache) × (x.cache ≡ k + i) × (slice_get cs i ≡ Some (Some c)) × (c.segment ≡ Some x.seg)

pub all_namings : (k : ℕ) (cs : List (Option Cache)) → AllByRecursion (IsNaming k cs) (namings k cs)
all_namings k [] = tt
all_namings k (o ∷ cs) =
    each_append (IsNaming k (o ∷ cs)) (naming_at k o) (namings (k + 1) cs) (first o)
    (each_by (IsNaming (k + 1) cs) (IsNaming k (o ∷ cs)) (λ x n. (suc n.0, n.1, omega (arith, n.2), n.3, n.4)) (namings (k + 1) cs) (all_namings (k + 1) cs))
  where
    by : (c : Cache) (s : Option ℕ) → c.segment ≡ s → AllByRecursion (IsNaming k (Some c ∷ cs)) (option_map_or (λ seg. (let x : Naming = record { seg = seg; cache = k } in x) ∷ []) s [])
    by c None e = tt
    by c (Some seg) e = ((0, c, omega arith, refl, e), tt)

    first : (o : Option Cache) → AllByRecursion (IsNaming k (o ∷ cs)) (naming_at k o)
    first None = tt
    first (Some c) = by c c.segment refl

-- each cache that is noted is one that the segment names
pub named_entries : (m : Machine) (caches : List Named) → map naming_of caches ≡ namings 1 m.caches → AllByRecursion (λ (d : Named). segment_of m d.cache.0 ≡ Some d.seg.0) caches
named_entries m caches e =
    all_of_map (λ (x : Naming). segment_of m x.cache ≡ Some x.seg) naming_of caches
    (subst (AllByRecursion (λ (x : Naming). segment_of m x.cache ≡ Some x.seg)) (sym e)
    (each_by (IsNaming 1 m.caches) (λ (x : Naming). segment_of m x.cache ≡ Some x.seg) at (namings 1 m.caches) (all_namings 1 m.caches)))
  where
    at : (x : Naming) → IsNaming 1 m.caches x → segment_of m x.cache ≡ Some x.seg
    at x n =
        let there : cache_of m x.cache ≡ Some n.1 = at_some m.caches x.cache (omega (arith, n.2)) ∙ ap (λ (i : ℕ). option_and_then (λ (c : Option Cache). c) (slice_get m.caches i)) (let s : x.cache - 1 ≡ n.0 = omega (arith, n.2) in s) ∙ ap (option_and_then (λ (c : Option Cache). c)) n.3 in
        ap (option_and_then (λ (c : Cache). c.segment)) there ∙ n.4

-- A cache goes

abbrev pub is_other : ℕ → Named → Bool
is_other n d = not (d.cache.0 == n)

abbrev named_other : ℕ → Naming → Bool
named_other n x = not (x.cache == n)

others_later : (k n : ℕ) (cs : List (Option Cache)) → n < k → filter (named_other n) (namings k cs) ≡ namings k cs
others_later k n cs less = filter_all (named_other n) (namings k cs)
    (each_by (IsNaming k cs) (λ (x : Naming). named_other n x ≡ true) (λ x at. ap not (ne_eqb x.cache n (λ e. absurd (omega (arith, e, less, at.2))))) (namings k cs) (all_namings k cs))

one_other : (k n : ℕ) (o : Option Cache) → k ≢ n → filter (named_other n) (naming_at k o) ≡ naming_at k o
one_other k n None apart = refl
one_other k n (Some c) apart = by c.segment
  where
    by : (s : Option ℕ) → filter (named_other n) (option_map_or (λ seg. (let x : Naming = record { seg = seg; cache = k } in x) ∷ []) s []) ≡ option_map_or (λ seg. (let x : Naming = record { seg = seg; cache = k } in x) ∷ []) s []
    by None = refl
    by (Some seg) = ap (λ (b : Bool). cond (not b) ((let x : Naming = record { seg = seg; cache = k } in x) ∷ []) []) (ne_eqb k n apart)

one_gone : (k n : ℕ) (o : Option Cache) → k ≡ n → filter (named_other n) (naming_at k o) ≡ []
one_gone k n None same = refl
one_gone k n (Some c) same = by c.segment
  where
    by : (s : Option ℕ) → filter (named_other n) (option_map_or (λ seg. (let x : Naming = record { seg = seg; cache = k } in x) ∷ []) s []) ≡ []
    by None = refl
    by (Some seg) = ap (λ (b : Bool). cond (not b) ((let x : Naming = record { seg = seg; cache = k } in x) ∷ []) []) (eq-eqb k n same)

namings_gone : (k : ℕ) (cs : List (Option Cache)) (i n : ℕ) → n ≡ k + i → namings k (set cs i None) ≡ filter (named_other n) (namings k cs)
namings_gone k [] i n e = refl
namings_gone k (o ∷ cs) zero n e =
    sym (filter_append (named_other n) (naming_at k o) (namings (k + 1) cs)
    ∙ (λ j. one_gone k n o (let s : k ≡ n = omega (arith, e) in s) j ++ others_later (k + 1) n cs (omega (arith, e)) j))
namings_gone k (o ∷ cs) (suc i) n e =
    ap (λ xs. naming_at k o ++ xs) (namings_gone (k + 1) cs i n (omega (arith, e)))
    ∙ sym (filter_append (named_other n) (naming_at k o) (namings (k + 1) cs)
    ∙ ap (λ xs. xs ++ filter (named_other n) (namings (k + 1) cs)) (one_other k n o (λ s. absurd (omega (arith, e, s)))))

pub noted_gone : (m : Machine) (caches : List Named) (n : ℕ) → 1 ≤ n → map naming_of caches ≡ namings 1 m.caches → map naming_of (filter (is_other n) caches) ≡ namings 1 (set m.caches (n - 1) None)
noted_gone m caches n some e =
    map_filter (named_other n) naming_of caches
    ∙ ap (filter (named_other n)) e
    ∙ sym (namings_gone 1 m.caches (n - 1) n (omega (arith, some)))

-- Openings

module _ (n s : ℕ) where
  -- such an entry is of this segment exactly where it is of this cache
  abbrev pub IsOne : Named → Type 0
  IsOne d = (d.cache.0 == n) ≡ (d.seg.0 == s)

  none_left : (caches : List Named) → AllByRecursion IsOne caches → openings_in (filter (is_other n) caches) s ≡ 0
  none_left [] h = refl
  none_left (d ∷ ds) h = by (d.cache.0 == n) refl (none_left ds h.1)
    where
      by : (b : Bool) → (d.cache.0 == n) ≡ b → openings_in (filter (is_other n) ds) s ≡ 0 → openings_in (cond (not b) (d ∷ filter (is_other n) ds) (filter (is_other n) ds)) s ≡ 0
      by true e rest = rest
      by false e rest = ap (λ (b : Bool). cond b d.openings (openings_in (filter (is_other n) ds) s)) (sym h.0 ∙ e) ∙ rest

  others_stay : (seg : ℕ) → seg ≢ s → (caches : List Named) → AllByRecursion IsOne caches → openings_in (filter (is_other n) caches) seg ≡ openings_in caches seg
  others_stay seg apart [] h = refl
  others_stay seg apart (d ∷ ds) h = by (d.cache.0 == n) refl (others_stay seg apart ds h.1)
    where
      by : (b : Bool) → (d.cache.0 == n) ≡ b → openings_in (filter (is_other n) ds) seg ≡ openings_in ds seg → openings_in (cond (not b) (d ∷ filter (is_other n) ds) (filter (is_other n) ds)) seg ≡ cond (d.seg.0 == seg) d.openings (openings_in ds seg)
      by true e rest =
          let is : d.seg.0 ≡ s = eqb-true d.seg.0 s (sym h.0 ∙ e) in
          rest ∙ sym (ap (λ (b : Bool). cond b d.openings (openings_in ds seg)) (ne_eqb d.seg.0 seg (λ same. apart (sym same ∙ is))))
      by false e rest = ap (cond (d.seg.0 == seg) d.openings) rest

  -- one without openings goes
  pub openings_gone : (caches : List Named) → AllByRecursion IsOne caches → openings_in caches s ≡ 0 → openings_in (filter (is_other n) caches) ≡ openings_in caches
  openings_gone caches h none = fun_same (openings_in (filter (is_other n) caches)) (openings_in caches) (λ seg. elim (cases_eq seg s) [
    | inl e ↦ ap (openings_in (filter (is_other n) caches)) e ∙ none_left caches h ∙ sym none ∙ ap (openings_in caches) (sym e)
    | inr apart ↦ others_stay seg apart caches h
  ])
