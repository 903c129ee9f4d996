-- Regions go, one after the other: which caches nothing refers to any more, by the regions that are
-- noted.
use Rattle.std.proofs.Common.{◌≡◌, ◌==◌, ℕ, zero, suc, ◌+◌, ◌≤◌, Bool, true, false, cond, List, [], ◌∷◌, ◌++◌, filter, length, map, remove, Option, Some, None, refl, sym, ap, subst, ◌∙◌, arith}
use Rattle.std.specs.Prelude.{◌||◌, ◌&&◌, IfSome, nat_lt, not, slice_index_or}
use Rattle.std.specs.List.{AllByRecursion, list_any, position_from}
use Rattle.std.specs.Option.{option_map_or}
use Rattle.std.proofs.lemmas.Bool.{eq-eqb, ne_eqb}
use Rattle.std.proofs.lemmas.List.{append-nil, append_assoc, length-append, map-append}
use Rattle.std.proofs.lemmas.List.Folds.{list_any-append}
use Rattle.interface_callers.proofs.Words.{Actor, AreBacked, CacheId, Machine, Segments, segment_of}
use Rattle.seg_manager.specs.Inner.{kept_by, leaves, named_with, staying, unused_after, unused_in, unused_then}
use Rattle.seg_manager.specs.Keeping.{left_by, left_one}
use Rattle.seg_manager.specs.ReferenceMachine.{ReferenceMachine}
use Rattle.seg_manager.specs.Seen.{is_kept, kept_segments, maps, openings_in}
use Rattle.seg_manager.specs.Tying.{AreOnce, AreTied, naming_of, namings, noted_of, noted_regions}
use Rattle.seg_manager.specs.declared.manager.SegManager.{SegManager}
use Rattle.seg_manager.specs.declared.tables.Kept.{Kept}
use Rattle.seg_manager.specs.declared.tables.Leaving.{Leaving}
use Rattle.seg_manager.specs.declared.tables.Mapped.{Mapped}
use Rattle.seg_manager.specs.declared.tables.Named.{Named}
use Rattle.seg_manager.proofs.Leaves.OpeningTakenBack.{kept_few, past_start}
use Rattle.seg_manager.proofs.Seeing.Unused.{is_unreferenced_by, keeps_more, left_noted, unreferenced_same, used_found}

-- Which regions go

module _ {A : Type 0} (test : A → Bool) where
  abbrev others : List A → List A
  others xs = filter (λ y. not (test y)) xs

  -- The first that passes the test stands here.
  pub record IsFirst (xs : List A) (p : ℕ) : Type 0 where
    pub x : A
    pub there : (d : A) → slice_index_or xs p d ≡ x
    pub gone : filter test xs ≡ x ∷ filter test (remove xs p)
    pub stay : others (remove xs p) ≡ others xs

  pub first_found : (k p : ℕ) (xs : List A) → position_from test k xs ≡ Some (k + p) → IsFirst xs p
  first_found k p [] e = absurd (cc e)
  first_found k zero (y ∷ ys) e = by (test y) refl e
    where
      by : (b : Bool) → test y ≡ b → cond b (Some k) (position_from test (k + 1) ys) ≡ Some (k + 0) → IsFirst (y ∷ ys) 0
      by false t e = absurd (let h : k + 1 ≤ k + 0 = past_start test (k + 1) ys (k + 0) e in omega (arith, h))
      by true t e = record {
        x = y;
        there = λ d. refl;
        gone = ap (λ (b : Bool). cond b (y ∷ filter test ys) (filter test ys)) t;
        stay = sym (ap (λ (b : Bool). cond (not b) (y ∷ others ys) (others ys)) t);
      }
  first_found k (suc p) (y ∷ ys) e = by (test y) refl e (λ f. first_found (k + 1) p ys (f ∙ ap (λ (j : ℕ). Some j) (let h : k + suc p ≡ k + 1 + p = omega arith in h)))
    where
      by : (b : Bool) → test y ≡ b → cond b (Some k) (position_from test (k + 1) ys) ≡ Some (k + suc p) → (position_from test (k + 1) ys ≡ Some (k + suc p) → IsFirst ys p) → IsFirst (y ∷ ys) (suc p)
      by true t e rest = absurd (let h : k ≡ k + suc p = cc e in omega (arith, h))
      by false t e rest =
          let r = rest e in
          record {
            x = r.x;
            there = r.there;
            gone = (λ i. cond (t i) (y ∷ filter test ys) (r.gone i)) ∙ sym (ap (λ (b : Bool). r.x ∷ cond b (y ∷ filter test (remove ys p)) (filter test (remove ys p))) t);
            stay = λ i. cond (not (test y)) (y ∷ r.stay i) (r.stay i);
          }

  pub none_found : (k : ℕ) (xs : List A) → position_from test k xs ≡ None → (filter test xs ≡ []) × (others xs ≡ xs)
  none_found k [] e = (refl, refl)
  none_found k (y ∷ ys) e = by (test y) refl e (none_found (k + 1) ys)
    where
      by : (b : Bool) → test y ≡ b → cond b (Some k) (position_from test (k + 1) ys) ≡ None → (position_from test (k + 1) ys ≡ None → (filter test ys ≡ []) × (others ys ≡ ys)) → (filter test (y ∷ ys) ≡ []) × (others (y ∷ ys) ≡ y ∷ ys)
      by true t e rest = absurd (cc e)
      by false t e rest =
          let r = rest e in
          (ap (λ (b : Bool). cond b (y ∷ filter test ys) (filter test ys)) t ∙ r.0, ap (λ (b : Bool). cond (not b) (y ∷ others ys) (others ys)) t ∙ ap (λ zs. y ∷ zs) r.1)

  -- those that go and those that stay are all
  pub any_parted : (p : A → Bool) (xs : List A) → list_any p (filter test xs ++ others xs) ≡ list_any p xs
  any_parted p [] = refl
  any_parted p (y ∷ ys) = by (test y) ∙ ap (λ (b : Bool). p y || b) (any_parted p ys)
    where
      past : (zs : List A) → list_any p (zs ++ y ∷ others ys) ≡ (p y || list_any p (zs ++ others ys))
      past [] = refl
      past (z ∷ zs) = ap (λ (b : Bool). p z || b) (past zs) ∙ turn (p z) (p y) (list_any p (zs ++ others ys))
        where
          turn : (a b c : Bool) → (a || (b || c)) ≡ (b || (a || c))
          turn true true c = refl
          turn true false c = refl
          turn false b c = refl

      by : (b : Bool) → list_any p (cond b (y ∷ filter test ys) (filter test ys) ++ cond (not b) (y ∷ others ys) (others ys)) ≡ (p y || list_any p (filter test ys ++ others ys))
      by true = refl
      by false = past (filter test ys)

-- What is unused depends on which caches are mapped alone.
unused_same : (cs : List Named) (rs ss : List Mapped) (cache : CacheId) → list_any (maps cache.0) rs ≡ list_any (maps cache.0) ss → unused_in cs rs cache ≡ unused_in cs ss cache
unused_same cs rs ss cache e = by (named_with cache.0 cs)
  where
    by : (o : Option Named) → kept_by rs cache o ≡ kept_by ss cache o
    by None = refl
    by (Some c) = ap (λ (b : Bool). kept_by_test c b) e
      where
        kept_by_test : Named → Bool → List Kept
        kept_by_test c b = cond ((c.openings == 0) && not b) ((let k : Kept = record { seg = c.seg; cache = cache } in k) ∷ []) []

-- the first of those that go is gone
pub unused_first : (cs : List Named) (l : Leaving) (rs : List Mapped) (p : ℕ) (f : IsFirst (leaves l) rs p) → unused_then cs l rs ≡ unused_in cs (remove rs p) f.x.cache ++ unused_then cs l (remove rs p)
unused_first cs l rs p f =
    ap (unused_after cs (staying l rs)) f.gone
    ∙ ap (λ (stay : List Mapped). unused_after cs stay (f.x ∷ filter (leaves l) (remove rs p))) (sym f.stay)
    ∙ ap (λ (ks : List Kept). ks ++ unused_then cs l (remove rs p)) (unused_same cs (filter (leaves l) (remove rs p) ++ staying l (remove rs p)) (remove rs p) f.x.cache (any_parted (leaves l) (maps f.x.cache.0) (remove rs p)))

-- The loop

once_front : (ks ls : List Kept) → AreOnce (ks ++ ls) → AreOnce ks
once_front [] ls once = tt
once_front (k ∷ ks) ls once = (by ks once.0, once_front ks ls once.1)
  where
    by : (ks : List Kept) → is_kept (ks ++ ls) k.cache.0 ≡ false → is_kept ks k.cache.0 ≡ false
    by [] e = refl
    by (j ∷ ks) e = first (j.cache.0 == k.cache.0) e (by ks)
      where
        first : (b : Bool) → (b || is_kept (ks ++ ls) k.cache.0) ≡ false → (is_kept (ks ++ ls) k.cache.0 ≡ false → is_kept ks k.cache.0 ≡ false) → (b || is_kept ks k.cache.0) ≡ false
        first true e rest = absurd (cc e)
        first false e rest = rest e

-- Some of the regions that go are gone.
pub record IsDropping {Manager : Type 0} (old : SegManager Manager) (l : Leaving) (now : SegManager Manager) : Type 0 where
  pub stay : staying l now.regions.items ≡ staying l old.regions.items
  pub kept : now.kept.items ++ unused_then old.caches.items l now.regions.items ≡ old.kept.items ++ unused_then old.caches.items l old.regions.items
  pub capacity : now.kept.room ≡ old.kept.room
  pub same : now ≡ record old { kept = now.kept; regions = now.regions }

pub dropping_none : {Manager : Type 0} (old : SegManager Manager) (l : Leaving) → IsDropping old l old
dropping_none old l = record { stay = refl; kept = refl; capacity = refl; same = refl }

module _ {Manager : Type 0} (old : SegManager Manager) (l : Leaving) (now : SegManager Manager) (d : IsDropping old l now) (room : length old.kept.items + length (unused_then old.caches.items l old.regions.items) ≤ old.kept.room) where
  caches_same : now.caches ≡ old.caches
  caches_same = ap (λ (x : SegManager Manager). x.caches) d.same

  module _ (p : ℕ) (at : Some p ≡ position_from (leaves l) 0 now.regions.items) where
    first : IsFirst (leaves l) now.regions.items p
    first = first_found (leaves l) 0 p now.regions.items (sym at ∙ ap (λ (j : ℕ). Some j) (let e : p ≡ 0 + p = omega arith in e))

  module _ (p : ℕ) (at : Some p ≡ position_from (leaves l) 0 now.regions.items) (rest : List Mapped) (gone : rest ≡ remove now.regions.items p) (x : Mapped) (is : x ≡ slice_index_or now.regions.items p x) where
    abbrev more : List Kept
    more = unused_in now.caches.items rest x.cache

    parts : unused_then old.caches.items l now.regions.items ≡ more ++ unused_then old.caches.items l rest
    parts =
        unused_first old.caches.items l now.regions.items p (first p at)
        ∙ (λ i. unused_in (sym caches_same i).items (sym gone i) (sym (is ∙ (first p at).there x) i).cache ++ unused_then old.caches.items l (sym gone i))

    -- there is room to keep one more
    pub room_more : length now.kept.items + length more ≤ now.kept.room
    room_more = omega (
      arith,
      room,
      d.capacity,
      ap length d.kept,
      length-append old.kept.items (unused_then old.caches.items l old.regions.items),
      length-append now.kept.items (unused_then old.caches.items l now.regions.items),
      ap length parts,
      length-append more (unused_then old.caches.items l rest),
    )

    pub once_more : AreOnce (old.kept.items ++ unused_then old.caches.items l old.regions.items) → AreOnce (now.kept.items ++ more)
    once_more once =
        once_front (now.kept.items ++ more) (unused_then old.caches.items l rest)
        (subst AreOnce (sym d.kept ∙ ap (λ (ks : List Kept). now.kept.items ++ ks) parts ∙ sym (append_assoc now.kept.items more (unused_then old.caches.items l rest))) once)

    pub dropping_more : (new : SegManager Manager) → new.regions.items ≡ rest → new.kept.items ≡ now.kept.items ++ more → new.kept.room ≡ now.kept.room
        → new ≡ record now { kept = new.kept; regions = new.regions } → IsDropping old l new
    dropping_more new regions kept capacity same = record {
      stay = ap (staying l) (regions ∙ gone) ∙ (first p at).stay ∙ d.stay;
      kept = (λ i. kept i ++ unused_then old.caches.items l (regions i))
          ∙ append_assoc now.kept.items more (unused_then old.caches.items l rest)
          ∙ ap (λ (ks : List Kept). now.kept.items ++ ks) (sym parts)
          ∙ d.kept;
      capacity = capacity ∙ d.capacity;
      same = same ∙ (λ i. record (d.same i) { kept = new.kept; regions = new.regions });
    }

  module _ (none : None ≡ position_from (leaves l) 0 now.regions.items) where
    pub dropped_regions : now.regions.items ≡ staying l old.regions.items
    dropped_regions = sym (none_found (leaves l) 0 now.regions.items (sym none)).1 ∙ d.stay

    pub dropped_kept : now.kept.items ≡ old.kept.items ++ unused_then old.caches.items l old.regions.items
    dropped_kept =
        sym (append-nil now.kept.items)
        ∙ ap (λ (gone : List Mapped). now.kept.items ++ unused_after old.caches.items (staying l now.regions.items) gone) (sym (none_found (leaves l) 0 now.regions.items (sym none)).0)
        ∙ d.kept

-- What is noted

-- What is noted is tied, beside any regions.
pub record AreNoted (m : Machine) (cs : List Named) (ks : List Kept) (room : ℕ) (rs : List Mapped) : Type 0 where
  pub caches : map naming_of cs ≡ namings 1 m.caches
  pub apart : (i j seg : ℕ) → segment_of m i ≡ Some seg → segment_of m j ≡ Some seg → i ≡ j
  pub kept : (n : ℕ) → is_kept ks n ≡ is_unreferenced_by m cs rs n
  pub named : AllByRecursion (λ (k : Kept). segment_of m k.cache.0 ≡ Some k.seg.0) ks
  pub once : AreOnce ks
  pub fits : length cs ≤ room

pub tied_noted : (m : Machine) (told : Option Segments) (cs : List Named) (ks : List Kept) (room : ℕ) (rs : List Mapped) → AreTied m told cs ks room rs → AreNoted m cs ks room rs
tied_noted m told cs ks room rs t = record {
  caches = t.caches;
  apart = t.apart;
  kept = λ n. t.kept n ∙ unreferenced_same m told cs rs t.regions n;
  named = t.named;
  once = t.once;
  fits = t.fits;
}

-- the caches of another machine are the same, and these are its regions
pub noted_tied : (m : Machine) (actors : List (Option Actor)) (now : Option Segments) (cs : List Named) (ks : List Kept) (room : ℕ) (rs : List Mapped) → AreNoted m cs ks room rs → map noted_of rs ≡ noted_regions 1 actors → IfSome now (λ h. AreBacked m.caches h)
    → AreTied (record m { actors = actors }) now cs ks room rs
noted_tied m actors now cs ks room rs t regions backed = record {
  caches = t.caches;
  regions = regions;
  apart = t.apart;
  kept = λ q. t.kept q ∙ sym (unreferenced_same (record m { actors = actors }) now cs rs regions q);
  named = t.named;
  once = t.once;
  fits = t.fits;
  backed = backed;
}

module _ (m : Machine) (cs : List Named) where
  -- what is tied depends on which caches are mapped alone
  noted_same : (ks : List Kept) (room : ℕ) (rs ss : List Mapped) → ((q : ℕ) → list_any (maps q) rs ≡ list_any (maps q) ss) → AreNoted m cs ks room rs → AreNoted m cs ks room ss
  noted_same ks room rs ss e t = record {
    caches = t.caches;
    apart = t.apart;
    kept = λ q. t.kept q ∙ ap (λ (b : Bool). option_map_or (λ seg. not (nat_lt 0 (openings_in cs seg) || b)) (segment_of m q) false) (e q);
    named = t.named;
    once = t.once;
    fits = t.fits;
  }

  off : (b : Bool) → not (b || true) ≡ false
  off true = refl
  off false = refl

  -- a cache that is mapped is referred to
  mapped_used : (rs : List Mapped) (q : ℕ) → list_any (maps q) rs ≡ true → is_unreferenced_by m cs rs q ≡ false
  mapped_used rs q e = by (segment_of m q)
    where
      by : (o : Option ℕ) → option_map_or (λ seg. not (nat_lt 0 (openings_in cs seg) || list_any (maps q) rs)) o false ≡ false
      by None = refl
      by (Some seg) = ap (λ (b : Bool). not (nat_lt 0 (openings_in cs seg) || b)) e ∙ off (nat_lt 0 (openings_in cs seg))

  -- one region goes
  noted_less : (ks : List Kept) (room : ℕ) (x : Mapped) (rs : List Mapped) → AreNoted m cs ks room (x ∷ rs) → AreNoted m cs (ks ++ unused_in cs rs x.cache) room rs
  noted_less ks room x rs t =
      let k = keeps_more m cs rs t.caches t.apart x.cache ks (is_unreferenced_by m cs (x ∷ rs)) t.kept t.once t.named
      (mapped_used (x ∷ rs) x.cache.0 (ap (λ (b : Bool). b || list_any (maps x.cache.0) rs) (eq-eqb x.cache.0 x.cache.0 refl)))
      (λ q other. ap (λ (b : Bool). option_map_or (λ seg. not (nat_lt 0 (openings_in cs seg) || (b || list_any (maps q) rs))) (segment_of m q) false) (sym (ne_eqb x.cache.0 q (λ s. other (sym s))))) in
      record {
        caches = t.caches;
        apart = t.apart;
        kept = k.kept;
        named = k.named;
        once = k.once;
        fits = t.fits;
      }

  noted_gone : (room : ℕ) (stay xs : List Mapped) (ks : List Kept) → AreNoted m cs ks room (xs ++ stay) → AreNoted m cs (ks ++ unused_after cs stay xs) room stay
  noted_gone room stay [] ks t = subst (λ (ls : List Kept). AreNoted m cs ls room stay) (sym (append-nil ks)) t
  noted_gone room stay (x ∷ xs) ks t =
      subst (λ (ls : List Kept). AreNoted m cs ls room stay) (append_assoc ks (unused_in cs (xs ++ stay) x.cache) (unused_after cs stay xs))
      (noted_gone room stay xs (ks ++ unused_in cs (xs ++ stay) x.cache) (noted_less ks room x (xs ++ stay) t))

  -- they all go
  pub noted_then : (ks : List Kept) (room : ℕ) (rs : List Mapped) (l : Leaving) → AreNoted m cs ks room rs → AreNoted m cs (ks ++ unused_then cs l rs) room (staying l rs)
  noted_then ks room rs l t = noted_gone room (staying l rs) (filter (leaves l) rs) ks (noted_same ks room rs (filter (leaves l) rs ++ staying l rs) (λ q. sym (any_parted (leaves l) (maps q) rs)) t)

  -- and there is room to keep all
  pub room_then : (ks : List Kept) (room : ℕ) (rs : List Mapped) (l : Leaving) → AreNoted m cs ks room rs → length ks + length (unused_then cs l rs) ≤ room
  room_then ks room rs l t =
      let then_noted = noted_then ks room rs l t in
      omega (arith, t.fits, length-append ks (unused_then cs l rs), kept_few m cs (ks ++ unused_then cs l rs) then_noted.caches then_noted.once then_noted.named)

  -- The segments of those that are kept then
  module _ (noted : map naming_of cs ≡ namings 1 m.caches) (apart : (i j seg : ℕ) → segment_of m i ≡ Some seg → segment_of m j ≡ Some seg → i ≡ j)
      (stay : List Mapped) (r : ReferenceMachine) (same : (q : ℕ) → left_one r q ≡ cond (is_unreferenced_by m cs stay q) (option_map_or (λ seg. seg ∷ []) (segment_of m q) []) []) where
    any_number : (n : ℕ) (xs : List Mapped) → list_any (λ k. k == n) (map (λ (x : Mapped). x.cache.0) xs) ≡ list_any (maps n) xs
    any_number n [] = refl
    any_number n (x ∷ xs) = ap (λ (b : Bool). (x.cache.0 == n) || b) (any_number n xs)

    one_left : (x : Mapped) (xs : List Mapped) → kept_segments (unused_in cs (xs ++ stay) x.cache) ≡ cond (list_any (λ k. k == x.cache.0) (map (λ (y : Mapped). y.cache.0) xs)) [] (left_one r x.cache.0)
    one_left x xs = by (list_any (maps x.cache.0) xs) refl ∙ ap (λ (b : Bool). cond b [] (left_one r x.cache.0)) (sym (any_number x.cache.0 xs))
      where
        by : (b : Bool) → list_any (maps x.cache.0) xs ≡ b → kept_segments (unused_in cs (xs ++ stay) x.cache) ≡ cond (list_any (maps x.cache.0) xs) [] (left_one r x.cache.0)
        by true e =
            ap kept_segments (used_found m cs (xs ++ stay) noted apart x.cache (mapped_used (xs ++ stay) x.cache.0 (list_any-append (maps x.cache.0) xs stay ∙ ap (λ (b : Bool). b || list_any (maps x.cache.0) stay) e)))
            ∙ sym (ap (λ (b : Bool). cond b [] (left_one r x.cache.0)) e)
        by false e =
            ap kept_segments (unused_same cs (xs ++ stay) stay x.cache (list_any-append (maps x.cache.0) xs stay ∙ ap (λ (b : Bool). b || list_any (maps x.cache.0) stay) e))
            ∙ left_noted m cs stay noted apart x.cache
            ∙ sym (same x.cache.0)
            ∙ sym (ap (λ (b : Bool). cond b [] (left_one r x.cache.0)) e)

    pub segments_left : (xs : List Mapped) → kept_segments (unused_after cs stay xs) ≡ left_by r (map (λ (x : Mapped). x.cache.0) xs)
    segments_left [] = refl
    segments_left (x ∷ xs) =
        map-append (λ (k : Kept). k.seg.0) (unused_in cs (xs ++ stay) x.cache) (unused_after cs stay xs)
        ∙ (λ i. one_left x xs i ++ segments_left xs i)
