-- An opening is taken back.
use Rattle.std.proofs.Common.{◌≡◌, ◌≢◌, ◌==◌, ℕ, zero, suc, ◌+◌, ◌-◌, ◌≤◌, Bool, true, false, cond, List, [], ◌∷◌, ◌++◌, length, set, map, Option, Some, None, refl, sym, ap, ◌∙◌, arith, inl, inr}
use Rattle.std.specs.Prelude.{◌||◌, nat_lt, not, option_and_then, slice_get}
use Rattle.std.specs.List.{AllByRecursion, IsDistinct, position_from}
use Rattle.std.specs.Set.{is_member}
use Rattle.std.specs.Option.{option_map_or}
use Rattle.std.proofs.lemmas.Bool.{cases_eq, eq-eqb, eqb-true, ne_eqb}
use Rattle.std.proofs.lemmas.Bool.Decides.{nat_tests}
use Rattle.std.proofs.lemmas.Cmp.{nat_eq_equiv}
use Rattle.std.proofs.lemmas.List.{length-map, length-set}
use Rattle.std.proofs.lemmas.Map.Made.{length-le_from_is_member}
use Rattle.std.specs.Prelude.{nat_eq}
use Rattle.interface_callers.proofs.Words.{Cache, CacheId, Machine, SegId, Segments, cache_of, is_mapped, segment_of}
use Rattle.interface_callers.proofs.Lists.{all_at}
use Rattle.seg_manager.specs.Inner.{Closes, first_of, named_with, unused_in}
use Rattle.seg_manager.specs.ReferenceMachine.{ReferenceMachine, close_one, goes}
use Rattle.seg_manager.specs.Seen.{is_kept, openings_in, references_seen, whole_of}
use Rattle.seg_manager.specs.Tying.{AreOnce, AreTied, is_unreferenced, naming_of, namings}
use Rattle.seg_manager.specs.declared.tables.Kept.{Kept}
use Rattle.seg_manager.specs.declared.tables.Mapped.{Mapped}
use Rattle.seg_manager.specs.declared.tables.Named.{Named}
use Rattle.seg_manager.proofs.Lookup.Entries.{fun_same, named_entries}
use Rattle.seg_manager.proofs.Seeing.StoredPages.{GoesToo}
use Rattle.seg_manager.proofs.Seeing.Unused.{KeepsMore, entry_there, is_unreferenced_by, keeps_more, unreferenced_same}

-- Openings

pub past_start : {A : Type 0} (test : A → Bool) (k : ℕ) (xs : List A) (i : ℕ) → position_from test k xs ≡ Some i → k ≤ i
past_start test k [] i e = absurd (cc e)
past_start test k (x ∷ xs) i e = by (test x) e (past_start test (k + 1) xs i)
  where
    by : (b : Bool) → cond b (Some k) (position_from test (k + 1) xs) ≡ Some i → (position_from test (k + 1) xs ≡ Some i → k + 1 ≤ i) → k ≤ i
    by true e rest = let same : k ≡ i = cc e in omega (arith, same)
    by false e rest = omega (arith, rest e)

-- The first entry of a segment has other openings.
pub record Reopened (s n : ℕ) (cs : List Named) (i : ℕ) (d : Named) : Type 0 where
  pub was : openings_in cs s ≡ d.openings
  pub of : d.seg.0 ≡ s
  pub now : (x : ℕ) → openings_in (set cs i (record d { openings = n })) x ≡ cond (x == s) n (openings_in cs x)

same_number : (a b : ℕ) → (a == b) ≡ (b == a)
same_number a b = elim (cases_eq a b) [
  | inl e ↦ eq-eqb a b e ∙ sym (eq-eqb b a (sym e))
  | inr other ↦ ne_eqb a b other ∙ sym (ne_eqb b a (λ e. other (sym e)))
]

pub reopened : (s n k : ℕ) (cs : List Named) (i : ℕ) (d : Named) → position_from (first_of s) k cs ≡ Some (k + i) → slice_get cs i ≡ Some d → Reopened s n cs i d
reopened s n k [] i d e there = absurd (cc there)
reopened s n k (c ∷ cs) zero d e there = by (c.seg.0 == s) refl e
  where
    is : c ≡ d
    is = cc there

    by : (b : Bool) → (c.seg.0 == s) ≡ b → cond b (Some k) (position_from (first_of s) (k + 1) cs) ≡ Some (k + 0) → Reopened s n (c ∷ cs) 0 d
    by false t e = absurd (let h : k + 1 ≤ k + 0 = past_start (first_of s) (k + 1) cs (k + 0) e in omega (arith, h))
    by true t e =
        let seg : c.seg.0 ≡ s = eqb-true c.seg.0 s t in
        record {
          was = ap (λ (b : Bool). cond b c.openings (openings_in cs s)) t ∙ ap (λ (x : Named). x.openings) is;
          of = ap (λ (x : Named). x.seg.0) (sym is) ∙ seg;
          now = λ x.
              let same : (d.seg.0 == x) ≡ (x == s) = same_number d.seg.0 x ∙ ap (λ (y : ℕ). x == y) (ap (λ (x : Named). x.seg.0) (sym is) ∙ seg) in
              let old : (c.seg.0 == x) ≡ (x == s) = same_number c.seg.0 x ∙ ap (λ (y : ℕ). x == y) seg in
              ap (λ (b : Bool). cond b n (openings_in cs x)) same
              ∙ both (x == s) (openings_in cs x)
              ∙ ap (λ (b : Bool). cond (x == s) n (cond b c.openings (openings_in cs x))) (sym old);
        }
      where
        both : (b : Bool) (r : ℕ) → cond b n r ≡ cond b n (cond b c.openings r)
        both true r = refl
        both false r = refl
reopened s n k (c ∷ cs) (suc i) d e there = by (c.seg.0 == s) refl e (λ f. reopened s n (k + 1) cs i d (f ∙ ap (λ (j : ℕ). Some j) (let h : k + suc i ≡ k + 1 + i = omega arith in h)) there)
  where
    by : (b : Bool) → (c.seg.0 == s) ≡ b → cond b (Some k) (position_from (first_of s) (k + 1) cs) ≡ Some (k + suc i) → (position_from (first_of s) (k + 1) cs ≡ Some (k + suc i) → Reopened s n cs i d) → Reopened s n (c ∷ cs) (suc i) d
    by true t e rest = absurd (let h : k ≡ k + suc i = cc e in omega (arith, h))
    by false t e rest =
        let r = rest e in
        record {
          was = ap (λ (b : Bool). cond b c.openings (openings_in cs s)) t ∙ r.was;
          of = r.of;
          now = λ x. ap (cond (c.seg.0 == x) c.openings) (r.now x) ∙ turn x (x == s) refl;
        }
      where
        turn : (x : ℕ) (b : Bool) → (x == s) ≡ b → cond (c.seg.0 == x) c.openings (cond (x == s) n (openings_in cs x)) ≡ cond (x == s) n (cond (c.seg.0 == x) c.openings (openings_in cs x))
        turn x true f =
            let is : x ≡ s = eqb-true x s f in
            let other : (c.seg.0 == x) ≡ false = ap (λ (y : ℕ). c.seg.0 == y) is ∙ t in
            ap (λ (b : Bool). cond b c.openings (cond (x == s) n (openings_in cs x))) other
            ∙ ap (λ (b : Bool). cond b n (openings_in cs x)) f
            ∙ sym (ap (λ (b : Bool). cond b n (cond (c.seg.0 == x) c.openings (openings_in cs x))) f)
        turn x false f =
            ap (λ (b : Bool). cond (c.seg.0 == x) c.openings (cond b n (openings_in cs x))) f
            ∙ sym (ap (λ (b : Bool). cond b n (cond (c.seg.0 == x) c.openings (openings_in cs x))) f)

pub naming_set : (n : ℕ) (cs : List Named) (i : ℕ) (d : Named) → slice_get cs i ≡ Some d → map naming_of (set cs i (record d { openings = n })) ≡ map naming_of cs
naming_set n [] i d there = refl
naming_set n (c ∷ cs) zero d there = let is : c ≡ d = cc there in λ j. naming_of (sym is j) ∷ map naming_of cs
naming_set n (c ∷ cs) (suc i) d there = ap (λ xs. naming_of c ∷ xs) (naming_set n cs i d there)

-- How many are kept

abbrev numbers : List Kept → List ℕ
numbers ks = map (λ (k : Kept). k.cache.0) ks

abbrev cache_numbers : List Named → List ℕ
cache_numbers cs = map (λ (c : Named). c.cache.0) cs

kept_number : (ks : List Kept) (q : ℕ) → is_member nat_eq (numbers ks) q ≡ is_kept ks q
kept_number [] q = refl
kept_number (k ∷ ks) q = λ i. same_number q k.cache.0 i || kept_number ks q i

distinct : (ks : List Kept) → AreOnce ks → IsDistinct nat_eq (numbers ks)
unfolding IsDistinct
distinct [] h = tt
distinct (k ∷ ks) h = (apart k ks h.0, distinct ks h.1)
  where
    or_parts : (a b : Bool) → (a || b) ≡ false → (a ≡ false) × (b ≡ false)
    or_parts true b e = absurd (cc e)
    or_parts false b e = (refl, e)

    apart : (k : Kept) (ls : List Kept) → is_kept ls k.cache.0 ≡ false → AllByRecursion (λ y. nat_eq k.cache.0 y ≡ false) (map (λ (k : Kept). k.cache.0) ls)
    apart k [] e = tt
    apart k (l ∷ ls) e = let p = or_parts (l.cache.0 == k.cache.0) (is_kept ls k.cache.0) e in (same_number k.cache.0 l.cache.0 ∙ p.0, apart k ls p.1)

named_member : (n : ℕ) (cs : List Named) (e : Named) → named_with n cs ≡ Some e → is_member nat_eq (map (λ (c : Named). c.cache.0) cs) n ≡ true
named_member n [] e is = absurd (cc is)
named_member n (c ∷ cs) e is = by (c.cache.0 == n) refl is (named_member n cs e)
  where
    or_true : (b : Bool) → (b || true) ≡ true
    or_true true = refl
    or_true false = refl

    by : (b : Bool) → (c.cache.0 == n) ≡ b → cond b (Some c) (named_with n cs) ≡ Some e → (named_with n cs ≡ Some e → is_member nat_eq (map (λ (c : Named). c.cache.0) cs) n ≡ true) → (nat_eq n c.cache.0 || is_member nat_eq (map (λ (c : Named). c.cache.0) cs) n) ≡ true
    by true t is rest = ap (λ (b : Bool). b || is_member nat_eq (map (λ (c : Named). c.cache.0) cs) n) (same_number n c.cache.0 ∙ t)
    by false t is rest = ap (λ (b : Bool). nat_eq n c.cache.0 || b) (rest is) ∙ or_true (nat_eq n c.cache.0)

-- No more caches are kept than segments name.
pub kept_few : (m : Machine) (cs : List Named) (ks : List Kept) → map naming_of cs ≡ namings 1 m.caches → AreOnce ks → AllByRecursion (λ (k : Kept). segment_of m k.cache.0 ≡ Some k.seg.0) ks → length ks ≤ length cs
kept_few m cs ks noted once named =
    omega (
      arith,
      length-map ks (λ (k : Kept). k.cache.0),
      length-map cs (λ (c : Named). c.cache.0),
      length-le_from_is_member nat_eq_equiv (numbers ks) (cache_numbers cs) (distinct ks once) (λ q is. within ks named q (sym (kept_number ks q) ∙ is)),
    )
  where
    within : (ls : List Kept) → AllByRecursion (λ (k : Kept). segment_of m k.cache.0 ≡ Some k.seg.0) ls → (q : ℕ) → is_kept ls q ≡ true → is_member nat_eq (map (λ (c : Named). c.cache.0) cs) q ≡ true
    within [] h q e = absurd (cc e)
    within (l ∷ ls) h q e = by (l.cache.0 == q) refl e (within ls h.1 q)
      where
        by : (b : Bool) → (l.cache.0 == q) ≡ b → (b || is_kept ls q) ≡ true → (is_kept ls q ≡ true → is_member nat_eq (map (λ (c : Named). c.cache.0) cs) q ≡ true) → is_member nat_eq (map (λ (c : Named). c.cache.0) cs) q ≡ true
        by true t e rest =
            let same : l.cache.0 ≡ q = eqb-true l.cache.0 q t in
            let found = entry_there m cs noted q l.seg.0 (ap (segment_of m) (sym same) ∙ h.0) in
            named_member q cs found.0 found.1
        by false t e rest = rest e

-- The call

module _ (m : Machine) (told : Option Segments) (cs : List Named) (ks : List Kept) (room : ℕ) (rs : List Mapped) (t : AreTied m told cs ks room rs) (seg : SegId) (cache : CacheId) (now : List Named) (c : Closes cs seg cache now) where
  abbrev n : ℕ
  n = cache.0

  abbrev W : ReferenceMachine
  W = whole_of m told cs

  abbrev V : ReferenceMachine
  V = whole_of m told now

  again : Reopened seg.0 (c.named.openings - 1) cs c.place c.named
  again = reopened seg.0 (c.named.openings - 1) 0 cs c.place c.named (sym c.first ∙ ap (λ (j : ℕ). Some j) (let e : c.place ≡ 0 + c.place = omega arith in e)) c.there

  openings_are : (x : ℕ) → openings_in now x ≡ cond (x == seg.0) (openings_in cs seg.0 - 1) (openings_in cs x)
  openings_are x = ap (λ (ds : List Named). openings_in ds x) c.then_is ∙ again.now x ∙ ap (λ (k : ℕ). cond (x == seg.0) (k - 1) (openings_in cs x)) (sym again.was)

  -- the segment was open
  pub was_open : nat_lt 0 (openings_in cs seg.0) ≡ true
  was_open = let some : 1 ≤ openings_in cs seg.0 = omega (arith, c.some, again.was) in grind (arith, nat_tests)

  pub of : segment_of m n ≡ Some seg.0
  of =
      let at = all_at (λ (d : Named). segment_of m d.cache.0 ≡ Some d.seg.0) cs c.place c.named (named_entries m cs t.caches) c.there in
      ap (λ (x : CacheId). segment_of m x.0) c.is ∙ at ∙ ap (λ (x : ℕ). Some x) again.of

  pub noted : map naming_of now ≡ namings 1 m.caches
  noted = ap (map naming_of) c.then_is ∙ naming_set (c.named.openings - 1) cs c.place c.named c.there ∙ t.caches

  -- it was referred to
  was_used : is_unreferenced W n ≡ false
  was_used = by (cache_of m n) of
    where
      by : (o : Option Cache) → option_and_then (λ (c : Cache). c.segment) o ≡ Some seg.0 → option_map_or (goes W n) o false ≡ false
      by None e = refl
      by (Some d) e =
          ap (λ (o : Option ℕ). option_map_or (λ s. not (nat_lt 0 (openings_in cs s) || is_mapped m n)) o false) e
          ∙ ap (λ (b : Bool). not (b || is_mapped m n)) was_open

  others : (q : ℕ) → q ≢ n → is_unreferenced V q ≡ is_unreferenced W q
  others q apart = by (cache_of m q) refl
    where
      at : (d : Cache) (s : Option ℕ) → segment_of m q ≡ s → option_map_or (λ s. not (nat_lt 0 (openings_in now s) || is_mapped m q)) s false ≡ option_map_or (λ s. not (nat_lt 0 (openings_in cs s) || is_mapped m q)) s false
      at d None e = refl
      at d (Some s) e =
          let other : s ≢ seg.0 = λ same. apart (t.apart q n seg.0 (e ∙ ap (λ (x : ℕ). Some x) same) of) in
          ap (λ (k : ℕ). not (nat_lt 0 k || is_mapped m q)) (openings_are s ∙ ap (λ (b : Bool). cond b (openings_in cs seg.0 - 1) (openings_in cs s)) (ne_eqb s seg.0 other))

      by : (o : Option Cache) → cache_of m q ≡ o → option_map_or (goes V q) o false ≡ option_map_or (goes W q) o false
      by None e = refl
      by (Some d) e = at d d.segment (ap (option_and_then (λ (c : Cache). c.segment)) e)

  keeps : KeepsMore ks (unused_in now rs cache) (is_unreferenced_by m now rs) m
  keeps = keeps_more m now rs noted t.apart cache ks (is_unreferenced W) t.kept t.once t.named was_used (λ q apart. sym (unreferenced_same m told now rs t.regions q) ∙ others q apart)

  -- What is noted is tied, with the cache kept that nothing refers to any more.
  pub tied_closed : AreTied m told now (ks ++ unused_in now rs cache) room rs
  tied_closed = record {
    caches = noted;
    regions = t.regions;
    apart = t.apart;
    kept = λ q. keeps.kept q ∙ sym (unreferenced_same m told now rs t.regions q);
    named = keeps.named;
    once = keeps.once;
    fits = omega (arith, t.fits, ap length c.then_is, length-set cs c.place (record c.named { openings = c.named.openings - 1 }));
    backed = t.backed;
  }

  pub closed_few : length (ks ++ unused_in now rs cache) ≤ length now
  closed_few = kept_few m now (ks ++ unused_in now rs cache) noted keeps.once keeps.named

  -- What is seen, by the definition
  abbrev pub closed : ReferenceMachine
  closed = close_one seg.0 (references_seen m told cs)

  pub closed_openings : closed.openings ≡ openings_in now
  closed_openings = known_openings told ∙ fun_same (λ x. cond (x == seg.0) (openings_in cs seg.0 - 1) (openings_in cs x)) (openings_in now) (λ x. sym (openings_are x))
    where
      known_openings : (o : Option Segments) → (close_one seg.0 (references_seen m o cs)).openings ≡ (λ x. cond (x == seg.0) (openings_in cs seg.0 - 1) (openings_in cs x))
      known_openings None = refl
      known_openings (Some h) = refl

  pub goes_too : (r : ReferenceMachine) → r.openings ≡ openings_in now → r.memory.actors ≡ m.actors → GoesToo W r
  goes_too r o a k d g = ap_goes ∙ by d.segment g
    where
      ap_goes : goes r k d ≡ goes V k d
      ap_goes = λ i. option_map_or (λ s. not (nat_lt 0 (o i s) || is_mapped (record m { actors = a i }) k)) d.segment false

      to_zero : (j : ℕ) (x : Bool) → j ≡ 0 → cond x (j - 1) j ≡ j
      to_zero j true e = omega (arith, e)
      to_zero j false e = refl

      less : (j : ℕ) (b x c : Bool) → nat_lt 0 j ≡ c → not (nat_lt 0 j || b) ≡ true → not (nat_lt 0 (cond x (j - 1) j) || b) ≡ true
      less j b x true e h = absurd (let wrong : not (true || b) ≡ true = ap (λ (c : Bool). not (c || b)) (sym e) ∙ h in cc wrong)
      less j b x false e h = ap (λ (k : ℕ). not (nat_lt 0 k || b)) (to_zero j x (let none : j ≡ 0 = grind (arith, nat_tests) in none)) ∙ h

      by : (s : Option ℕ) → option_map_or (λ s. not (nat_lt 0 (openings_in cs s) || is_mapped m k)) s false ≡ true → option_map_or (λ s. not (nat_lt 0 (openings_in now s) || is_mapped m k)) s false ≡ true
      by None h = absurd (cc h)
      by (Some s) h =
          ap (λ (j : ℕ). not (nat_lt 0 j || is_mapped m k)) (openings_are s ∙ turn (s == seg.0) refl)
          ∙ less (openings_in cs s) (is_mapped m k) (s == seg.0) (nat_lt 0 (openings_in cs s)) refl h
        where
          turn : (b : Bool) → (s == seg.0) ≡ b → cond (s == seg.0) (openings_in cs seg.0 - 1) (openings_in cs s) ≡ cond (s == seg.0) (openings_in cs s - 1) (openings_in cs s)
          turn true e = ap (λ (x : ℕ). cond (s == seg.0) (openings_in cs x - 1) (openings_in cs s)) (sym (eqb-true s seg.0 e))
          turn false e = ap (λ (b : Bool). cond b (openings_in cs seg.0 - 1) (openings_in cs s)) e ∙ sym (ap (λ (b : Bool). cond b (openings_in cs s - 1) (openings_in cs s)) e)
