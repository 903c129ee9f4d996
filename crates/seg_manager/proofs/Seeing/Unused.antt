-- Whether something refers to a cache, as it is noted and as the machine says.
use Rattle.std.proofs.Common.{◌≡◌, ◌≢◌, ◌==◌, ℕ, zero, suc, ◌+◌, ◌-◌, Bool, true, false, cond, List, [], ◌∷◌, ◌++◌, map, Option, Some, None, refl, sym, ap, subst, ◌∙◌, arith, inl, inr}
use Rattle.std.specs.Prelude.{◌||◌, ◌&&◌, nat_lt, not, option_and_then, slice_get}
use Rattle.std.specs.List.{AllByRecursion, list_any}
use Rattle.std.specs.Option.{option_map_or}
use Rattle.std.proofs.lemmas.Bool.{cases_eq, eq-eqb, eqb-true, ne_eqb}
use Rattle.std.proofs.lemmas.Bool.Decides.{nat_tests}
use Rattle.std.proofs.lemmas.List.{append-nil}
use Rattle.std.proofs.lemmas.List.Folds.{list_any-append}
use Rattle.vm_model.proofs.Parts.Naming.{segment_cache}
use Rattle.vm_model.proofs.Parts.Lists.{numbered_place}
use Rattle.vm_model.proofs.Parts.Pairs.{each_append, each_by}
use Rattle.interface_callers.proofs.Words.{Actor, Cache, CacheId, Machine, Region, Segments, cache_of, is_mapped, maps_in, segment_of}
use Rattle.seg_manager.specs.Inner.{kept_by, named_with, unused_in}
use Rattle.seg_manager.specs.ReferenceMachine.{goes}
use Rattle.seg_manager.specs.Keeping.{left_one}
use Rattle.seg_manager.specs.Seen.{is_kept, kept_segments, maps, openings_in, whole_of}
use Rattle.seg_manager.specs.Tying.{AreOnce, Naming, Noted, is_unreferenced, naming_at, naming_of, namings, noted_at, noted_of, noted_region, noted_regions}
use Rattle.seg_manager.specs.declared.tables.Kept.{Kept}
use Rattle.seg_manager.specs.declared.tables.Mapped.{Mapped}
use Rattle.seg_manager.specs.declared.tables.Named.{Named}
use Rattle.seg_manager.proofs.Lookup.Entries.{IsOne, named_entries}

-- Regions

abbrev noted_maps : ℕ → Noted → Bool
noted_maps n x = x.cache == n

mapped_noted : (n : ℕ) (rs : List Mapped) → list_any (maps n) rs ≡ list_any (noted_maps n) (map noted_of rs)
mapped_noted n [] = refl
mapped_noted n (r ∷ rs) = ap (λ (b : Bool). (r.cache.0 == n) || b) (mapped_noted n rs)

mapped_region : (n k : ℕ) (rs : Actor) → list_any (noted_maps n) (map (noted_region k) rs) ≡ list_any (λ (r : Region). r.cache == n) rs
mapped_region n k [] = refl
mapped_region n k (r ∷ rs) = ap (λ (b : Bool). (r.cache == n) || b) (mapped_region n k rs)

mapped_at : (n k : ℕ) (a : Option Actor) → list_any (noted_maps n) (noted_at k a) ≡ maps_in n a
mapped_at n k None = refl
mapped_at n k (Some rs) = mapped_region n k rs

mapped_regions : (n k : ℕ) (actors : List (Option Actor)) → list_any (noted_maps n) (noted_regions k actors) ≡ list_any (maps_in n) actors
mapped_regions n k [] = refl
mapped_regions n k (a ∷ actors) =
    list_any-append (noted_maps n) (noted_at k a) (noted_regions (k + 1) actors)
    ∙ (λ i. mapped_at n k a i || mapped_regions n (k + 1) actors i)

-- a region is noted that maps the cache exactly where the machine has one
pub mapped_is : (m : Machine) (rs : List Mapped) → map noted_of rs ≡ noted_regions 1 m.actors → (n : ℕ) → list_any (maps n) rs ≡ is_mapped m n
mapped_is m rs e n = mapped_noted n rs ∙ ap (list_any (noted_maps n)) e ∙ mapped_regions n 1 m.actors

-- Entries

-- an entry is of this segment exactly where it is of this cache, of which the segment is
pub ones_of : (m : Machine) (cs : List Named) → map naming_of cs ≡ namings 1 m.caches → ((i j seg : ℕ) → segment_of m i ≡ Some seg → segment_of m j ≡ Some seg → i ≡ j) → (n seg : ℕ) → segment_of m n ≡ Some seg → AllByRecursion (IsOne n seg) cs
ones_of m cs e apart n seg of = each_by (λ (d : Named). segment_of m d.cache.0 ≡ Some d.seg.0) (IsOne n seg) by cs (named_entries m cs e)
  where
    by : (d : Named) → segment_of m d.cache.0 ≡ Some d.seg.0 → (d.cache.0 == n) ≡ (d.seg.0 == seg)
    by d f = elim (cases_eq d.cache.0 n) [
      | inl same ↦ (let both : Some d.seg.0 ≡ Some seg = sym f ∙ ap (segment_of m) same ∙ of in let is : d.seg.0 ≡ seg = cc both in eq-eqb d.cache.0 n same ∙ sym (eq-eqb d.seg.0 seg is))
      | inr other ↦ ne_eqb d.cache.0 n other ∙ sym (ne_eqb d.seg.0 seg (λ is. other (apart d.cache.0 n seg (f ∙ ap (λ (x : ℕ). Some x) is) of)))
    ]

-- the entry of a cache is of its segment, with the segment's openings
pub named_openings : (n s : ℕ) (cs : List Named) → AllByRecursion (IsOne n s) cs → (e : Named) → named_with n cs ≡ Some e → (e.seg.0 ≡ s) × (openings_in cs s ≡ e.openings)
named_openings n s [] h e is = absurd (cc is)
named_openings n s (d ∷ ds) h e is = by (d.cache.0 == n) refl is (named_openings n s ds h.1 e)
  where
    by : (b : Bool) → (d.cache.0 == n) ≡ b → cond b (Some d) (named_with n ds) ≡ Some e → (named_with n ds ≡ Some e → (e.seg.0 ≡ s) × (openings_in ds s ≡ e.openings)) → (e.seg.0 ≡ s) × (cond (d.seg.0 == s) d.openings (openings_in ds s) ≡ e.openings)
    by true t is rest =
        let same : d ≡ e = cc is in
        (sym (ap (λ (x : Named). x.seg.0) same) ∙ eqb-true d.seg.0 s (sym h.0 ∙ t), ap (λ (b : Bool). cond b d.openings (openings_in ds s)) (sym h.0 ∙ t) ∙ ap (λ (x : Named). x.openings) same)
    by false t is rest = let r = rest is in (r.0, ap (λ (b : Bool). cond b d.openings (openings_in ds s)) (sym h.0 ∙ t) ∙ r.1)

-- a cache that a segment names is noted
abbrev Has : ℕ → ℕ → List Naming → Type 0
Has n s xs = (j : ℕ) × (slice_get xs j ≡ Some (let x : Naming = record { seg = s; cache = n } in x))

has_behind : (n s : ℕ) (xs ys : List Naming) → Has n s ys → Has n s (xs ++ ys)
has_behind n s [] ys h = h
has_behind n s (x ∷ xs) ys h = let r = has_behind n s xs ys h in (suc r.0, r.1)

naming_there : (k : ℕ) (cs : List (Option Cache)) (i : ℕ) (c : Cache) (s : ℕ) → slice_get cs i ≡ Some (Some c) → c.segment ≡ Some s → Has (k + i) s (namings k cs)
naming_there k [] i c s there named = absurd (cc there)
naming_there k (o ∷ cs) zero c s there named =
    let is : o ≡ Some c = cc there in
    subst (λ (x : Option Cache). Has (k + 0) s (naming_at k x ++ namings (k + 1) cs)) (sym is) (by c.segment named)
  where
    by : (x : Option ℕ) → x ≡ Some s → Has (k + 0) s (option_map_or (λ seg. (let y : Naming = record { seg = seg; cache = k } in y) ∷ []) x [] ++ namings (k + 1) cs)
    by None e = absurd (cc e)
    by (Some seg) e =
        let same : seg ≡ s = cc e in
        let here : k ≡ k + 0 = omega arith in
        (0, λ i. Some (record { seg = same i; cache = here i }))
naming_there k (o ∷ cs) (suc i) c s there named =
    has_behind (k + suc i) s (naming_at k o) (namings (k + 1) cs)
    (subst (λ (n : ℕ). Has n s (namings (k + 1) cs)) (let e : k + 1 + i ≡ k + suc i = omega arith in e) (naming_there (k + 1) cs i c s there named))

found_at : (n : ℕ) (cs : List Named) (j : ℕ) (s : ℕ) → slice_get (map naming_of cs) j ≡ Some (let x : Naming = record { seg = s; cache = n } in x) → (e : Named) × (named_with n cs ≡ Some e)
found_at n [] j s e = absurd (cc e)
found_at n (d ∷ ds) j s e = by (d.cache.0 == n) refl j e (λ i f. found_at n ds i s f)
  where
    by : (b : Bool) → (d.cache.0 == n) ≡ b → (j : ℕ) → slice_get (naming_of d ∷ map naming_of ds) j ≡ Some (let x : Naming = record { seg = s; cache = n } in x)
        → ((i : ℕ) → slice_get (map naming_of ds) i ≡ Some (let x : Naming = record { seg = s; cache = n } in x) → (e : Named) × (named_with n ds ≡ Some e)) → (e : Named) × (cond b (Some d) (named_with n ds) ≡ Some e)
    by true t j e rest = (d, refl)
    by false t zero e rest = absurd (let same : naming_of d ≡ (let x : Naming = record { seg = s; cache = n } in x) = cc e in let number : d.cache.0 ≡ n = ap (λ (x : Naming). x.cache) same in let yes : (d.cache.0 == n) ≡ true = eq-eqb d.cache.0 n number in cc (t, yes))
    by false t (suc i) e rest = rest i e

pub entry_there : (m : Machine) (cs : List Named) → map naming_of cs ≡ namings 1 m.caches → (n s : ℕ) → segment_of m n ≡ Some s → (e : Named) × (named_with n cs ≡ Some e)
entry_there m cs e n s of =
    let c = segment_cache m n s of in
    let place = numbered_place m.caches n c.0 c.1 in
    let h = naming_there 1 m.caches (n - 1) c.0 s place.1 c.2 in
    found_at n cs h.0 s (ap (λ (xs : List Naming). slice_get xs h.0) e ∙ h.1 ∙ ap (λ (k : ℕ). Some (let x : Naming = record { seg = s; cache = k } in x)) (let same : 1 + (n - 1) ≡ n = omega (arith, place.0) in same))

no_entry : (n : ℕ) (cs : List Named) (m : Machine) → segment_of m n ≡ None → AllByRecursion (λ (d : Named). segment_of m d.cache.0 ≡ Some d.seg.0) cs → named_with n cs ≡ None
no_entry n [] m none h = refl
no_entry n (d ∷ ds) m none h =
    let other : d.cache.0 ≢ n = λ same. (let wrong : None ≡ Some d.seg.0 = sym none ∙ ap (segment_of m) (sym same) ∙ h.0 in cc wrong) in
    ap (λ (b : Bool). cond b (Some d) (named_with n ds)) (ne_eqb d.cache.0 n other) ∙ no_entry n ds m none h.1

-- What nothing refers to

no_reference : (k : ℕ) (b : Bool) → not (nat_lt 0 k || b) ≡ ((k == 0) && not b)
no_reference k b = by (nat_lt 0 k) refl
  where
    by : (c : Bool) → nat_lt 0 k ≡ c → not (nat_lt 0 k || b) ≡ ((k == 0) && not b)
    by true e = let some : (k == 0) ≡ false = grind (arith, nat_tests) in (λ i. not (e i || b)) ∙ sym (ap (λ (c : Bool). c && not b) some)
    by false e = let none : (k == 0) ≡ true = grind (arith, nat_tests) in (λ i. not (e i || b)) ∙ sym (ap (λ (c : Bool). c && not b) none)

-- nothing refers to the cache, by the regions that are noted
abbrev pub is_unreferenced_by : Machine → List Named → List Mapped → ℕ → Bool
is_unreferenced_by m cs rs n = option_map_or (λ seg. not (nat_lt 0 (openings_in cs seg) || list_any (maps n) rs)) (segment_of m n) false

-- by the regions of the machine it is the same
pub unreferenced_same : (m : Machine) (told : Option Segments) (cs : List Named) (rs : List Mapped) → map noted_of rs ≡ noted_regions 1 m.actors → (n : ℕ) → is_unreferenced (whole_of m told cs) n ≡ is_unreferenced_by m cs rs n
unreferenced_same m told cs rs regions n = by (cache_of m n)
  where
    by : (o : Option Cache) → option_map_or (goes (whole_of m told cs) n) o false ≡ option_map_or (λ seg. not (nat_lt 0 (openings_in cs seg) || list_any (maps n) rs)) (option_and_then (λ (c : Cache). c.segment) o) false
    by None = refl
    by (Some c) = λ i. option_map_or (λ seg. not (nat_lt 0 (openings_in cs seg) || sym (mapped_is m rs regions n) i)) c.segment false

module _ (m : Machine) (cs : List Named) (rs : List Mapped) (noted : map naming_of cs ≡ namings 1 m.caches)
    (apart : (i j seg : ℕ) → segment_of m i ≡ Some seg → segment_of m j ≡ Some seg → i ≡ j) (cache : CacheId) where
  abbrev n : ℕ
  n = cache.0

  abbrev U : Bool
  U = is_unreferenced_by m cs rs n

  -- as its entry says
  entry_says : (s : ℕ) → segment_of m n ≡ Some s → (e : Named) × (named_with n cs ≡ Some e) × (e.seg.0 ≡ s) × (U ≡ ((e.openings == 0) && not (list_any (maps n) rs)))
  entry_says s of =
      let e = entry_there m cs noted n s of in
      let o = named_openings n s cs (ones_of m cs noted apart n s of) e.0 e.1 in (
        e.0,
        e.1,
        o.0,
        ap (λ (x : Option ℕ). option_map_or (λ seg. not (nat_lt 0 (openings_in cs seg) || list_any (maps n) rs)) x false) of
            ∙ ap (λ (k : ℕ). not (nat_lt 0 k || list_any (maps n) rs)) o.1
            ∙ no_reference e.0.openings (list_any (maps n) rs),
      )

  -- A cache is found to be unused exactly where nothing refers to it.
  pub record Finds : Type 0 where
    pub seg : ℕ
    pub of : segment_of m n ≡ Some seg
    pub kept : Kept
    pub is : unused_in cs rs cache ≡ kept ∷ []
    pub named : kept.seg.0 ≡ seg
    pub cache_is : kept.cache ≡ cache

  pub unused_found : U ≡ true → Finds
  unused_found sure = by (segment_of m n) refl
    where
      none : segment_of m n ≡ None → U ≡ false
      none e = ap (λ (x : Option ℕ). option_map_or (λ seg. not (nat_lt 0 (openings_in cs seg) || list_any (maps n) rs)) x false) e

      by : (o : Option ℕ) → segment_of m n ≡ o → Finds
      by None e = absurd (let not_so = none e in cc (sure, not_so))
      by (Some s) e =
          let it = entry_says s e in
          record {
            seg = s;
            of = e;
            kept = record { seg = it.0.seg; cache = cache };
            is = ap (kept_by rs cache) it.1 ∙ ap (λ (b : Bool). cond b ((let k : Kept = record { seg = it.0.seg; cache = cache } in k) ∷ []) []) (sym it.3 ∙ sure);
            named = it.2;
            cache_is = refl;
          }

  pub used_found : U ≡ false → unused_in cs rs cache ≡ []
  used_found never = by (segment_of m n) refl
    where
      by : (o : Option ℕ) → segment_of m n ≡ o → unused_in cs rs cache ≡ []
      by None e = ap (kept_by rs cache) (no_entry n cs m e (named_entries m cs noted))
      by (Some s) e =
          let it = entry_says s e in
          ap (kept_by rs cache) it.1 ∙ ap (λ (b : Bool). cond b ((let k : Kept = record { seg = it.0.seg; cache = cache } in k) ∷ []) []) (sym it.3 ∙ never)

-- One more is kept

kept_append : (ks ls : List Kept) (q : ℕ) → is_kept (ks ++ ls) q ≡ (is_kept ks q || is_kept ls q)
kept_append ks ls q = list_any-append (λ (k : Kept). k.cache.0 == q) ks ls

or_none : (b : Bool) → (b || false) ≡ b
or_none true = refl
or_none false = refl

once_more : (ks : List Kept) (k : Kept) → AreOnce ks → is_kept ks k.cache.0 ≡ false → AreOnce (ks ++ k ∷ [])
once_more [] k once free = (refl, tt)
once_more (l ∷ ks) k once free =
    let parts = or_parts (l.cache.0 == k.cache.0) (is_kept ks k.cache.0) free in
    (kept_append ks (k ∷ []) l.cache.0 ∙ (λ i. once.0 i || (flip parts.0 i || false)), once_more ks k once.1 parts.1)
  where
    or_parts : (a b : Bool) → (a || b) ≡ false → (a ≡ false) × (b ≡ false)
    or_parts true b e = absurd (cc e)
    or_parts false b e = (refl, e)

    flip : (l.cache.0 == k.cache.0) ≡ false → (k.cache.0 == l.cache.0) ≡ false
    flip e = grind (arith, nat_tests)

-- Those that are kept, where at most this cache is kept besides
pub record KeepsMore (ks : List Kept) (more : List Kept) (now : ℕ → Bool) (m : Machine) : Type 0 where
  pub kept : (q : ℕ) → is_kept (ks ++ more) q ≡ now q
  pub once : AreOnce (ks ++ more)
  pub named : AllByRecursion (λ (k : Kept). segment_of m k.cache.0 ≡ Some k.seg.0) (ks ++ more)

pub keeps_more : (m : Machine) (cs : List Named) (rs : List Mapped) → map naming_of cs ≡ namings 1 m.caches
    → ((i j seg : ℕ) → segment_of m i ≡ Some seg → segment_of m j ≡ Some seg → i ≡ j)
    → (cache : CacheId) (ks : List Kept) (was : ℕ → Bool) → ((q : ℕ) → is_kept ks q ≡ was q) → AreOnce ks → AllByRecursion (λ (k : Kept). segment_of m k.cache.0 ≡ Some k.seg.0) ks
    → was cache.0 ≡ false → ((q : ℕ) → q ≢ cache.0 → is_unreferenced_by m cs rs q ≡ was q)
    → KeepsMore ks (unused_in cs rs cache) (is_unreferenced_by m cs rs) m
keeps_more m cs rs noted apart cache ks was kept once named free same = by (is_unreferenced_by m cs rs cache.0) refl
  where
    by : (b : Bool) → is_unreferenced_by m cs rs cache.0 ≡ b → KeepsMore ks (unused_in cs rs cache) (is_unreferenced_by m cs rs) m
    by false e =
        subst (λ (more : List Kept). KeepsMore ks more (is_unreferenced_by m cs rs) m) (sym (used_found m cs rs noted apart cache e)) (record {
          kept = λ q. kept_append ks [] q ∙ or_none (is_kept ks q) ∙ kept q ∙ elim (cases_eq q cache.0) [
            | inl is ↦ ap was is ∙ free ∙ sym e ∙ ap (is_unreferenced_by m cs rs) (sym is)
            | inr other ↦ sym (same q other)
          ];
          once = subst AreOnce (sym (append-nil ks)) once;
          named = subst (AllByRecursion (λ (k : Kept). segment_of m k.cache.0 ≡ Some k.seg.0)) (sym (append-nil ks)) named;
        })
    by true e =
        let f = unused_found m cs rs noted apart cache e in
        let number : f.kept.cache.0 ≡ cache.0 = ap (λ (c : CacheId). c.0) f.cache_is in
        subst (λ (more : List Kept). KeepsMore ks more (is_unreferenced_by m cs rs) m) (sym f.is) (record {
          kept = λ q. kept_append ks (f.kept ∷ []) q ∙ elim (cases_eq q cache.0) [
            | inl is ↦ (λ i. (kept q ∙ ap was is ∙ free) i || ((eq-eqb f.kept.cache.0 q (number ∙ sym is)) i || false)) ∙ sym (ap (is_unreferenced_by m cs rs) is ∙ e)
            | inr other ↦ (λ i. is_kept ks q || (ne_eqb f.kept.cache.0 q (λ s. other (sym s ∙ number)) i || false)) ∙ or_none (is_kept ks q) ∙ kept q ∙ sym (same q other)
          ];
          once = once_more ks f.kept once (ap (is_kept ks) number ∙ kept cache.0 ∙ free);
          named = each_append (λ (k : Kept). segment_of m k.cache.0 ≡ Some k.seg.0) ks (f.kept ∷ []) named (ap (segment_of m) number ∙ f.of ∙ ap (λ (s : ℕ). Some s) (sym f.named), tt);
        })

-- the segment of what is found unused
pub left_noted : (m : Machine) (cs : List Named) (rs : List Mapped) → map naming_of cs ≡ namings 1 m.caches
    → ((i j seg : ℕ) → segment_of m i ≡ Some seg → segment_of m j ≡ Some seg → i ≡ j)
    → (cache : CacheId) → kept_segments (unused_in cs rs cache) ≡ cond (is_unreferenced_by m cs rs cache.0) (option_map_or (λ seg. seg ∷ []) (segment_of m cache.0) []) []
left_noted m cs rs noted apart cache = by (is_unreferenced_by m cs rs cache.0) refl
  where
    by : (b : Bool) → is_unreferenced_by m cs rs cache.0 ≡ b → kept_segments (unused_in cs rs cache) ≡ cond (is_unreferenced_by m cs rs cache.0) (option_map_or (λ seg. seg ∷ []) (segment_of m cache.0) []) []
    by false e =
        ap kept_segments (used_found m cs rs noted apart cache e)
        ∙ sym (ap (λ (b : Bool). cond b (option_map_or (λ seg. seg ∷ []) (segment_of m cache.0) []) []) e)
    by true e =
        let f = unused_found m cs rs noted apart cache e in
        ap kept_segments f.is ∙ ap (λ (s : ℕ). s ∷ []) f.named
        ∙ sym (ap (λ (b : Bool). cond b (option_map_or (λ seg. seg ∷ []) (segment_of m cache.0) []) []) e ∙ ap (λ (o : Option ℕ). option_map_or (λ seg. seg ∷ []) o []) f.of)

-- the same, as it is said of the machine
pub left_unreferenced : (m : Machine) (told : Option Segments) (cs : List Named) (rs : List Mapped) → map noted_of rs ≡ noted_regions 1 m.actors
    → (q : ℕ) → left_one (whole_of m told cs) q ≡ cond (is_unreferenced_by m cs rs q) (option_map_or (λ seg. seg ∷ []) (segment_of m q) []) []
left_unreferenced m told cs rs regions q = ap (λ (b : Bool). cond b (option_map_or (λ seg. seg ∷ []) (segment_of m q) []) []) (unreferenced_same m told cs rs regions q)

pub left_is : (m : Machine) (told : Option Segments) (cs : List Named) (rs : List Mapped) → map naming_of cs ≡ namings 1 m.caches → map noted_of rs ≡ noted_regions 1 m.actors
    → ((i j seg : ℕ) → segment_of m i ≡ Some seg → segment_of m j ≡ Some seg → i ≡ j)
    → (cache : CacheId) → kept_segments (unused_in cs rs cache) ≡ left_one (whole_of m told cs) cache.0
left_is m told cs rs noted regions apart cache = left_noted m cs rs noted apart cache ∙ sym (left_unreferenced m told cs rs regions cache.0)
