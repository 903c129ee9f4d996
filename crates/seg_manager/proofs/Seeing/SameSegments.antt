-- What stays where each cache keeps its segment: what is noted stays tied.
use Rattle.std.proofs.Common.{◌≡◌, ◌==◌, ℕ, zero, suc, ◌+◌, Bool, true, false, cond, List, [], ◌∷◌, ◌++◌, map, set, Option, Some, None, refl, sym, ap, ◌∙◌, arith}
use Rattle.std.specs.Prelude.{◌||◌, IfSome, nat_lt, not, option_and_then, option_map, slice_get}
use Rattle.std.specs.List.{list_any}
use Rattle.std.specs.Option.{option_map_or}
use Rattle.vm_model.proofs.Parts.Lists.{numbered-map}
use Rattle.vm_model.proofs.Parts.Pairs.{each_by}
use Rattle.interface_callers.proofs.Words.{AreBacked, Cache, Machine, Segments, blank_cache, cache_named, cache_of, is_named_by, numbered, segment_of}
use Rattle.seg_manager.specs.ReferenceMachine.{ReferenceMachine, goes, put_stored, stored_at, stored_from}
use Rattle.seg_manager.specs.Seen.{maps, openings_in}
use Rattle.seg_manager.specs.Tying.{AreTied, Naming, naming_at, namings, noted_of, noted_regions}
use Rattle.seg_manager.specs.declared.tables.Kept.{Kept}
use Rattle.seg_manager.specs.declared.tables.Mapped.{Mapped}
use Rattle.seg_manager.specs.declared.tables.Named.{Named}
use Rattle.seg_manager.proofs.Seeing.ReferenceComes.{GoAlike}
use Rattle.seg_manager.proofs.Seeing.Unused.{is_unreferenced_by, unreferenced_same}
use Rattle.seg_manager.proofs.Seeing.WhichGo.{Caches}
use Rattle.seg_manager.proofs.Seeing.Naming.{has_named, head_named}

-- The segments tell

abbrev segment_in : Cache → Option ℕ
segment_in c = c.segment

-- the segment of each cache
abbrev pub segments_in : Caches → List (Option (Option ℕ))
segments_in cs = map (option_map segment_in) cs

abbrev naming_by : ℕ → Option (Option ℕ) → List Naming
naming_by number None = []
naming_by number (Some s) = option_map_or (λ seg. (let x : Naming = record { seg = seg; cache = number } in x) ∷ []) s []

abbrev namings_by : ℕ → List (Option (Option ℕ)) → List Naming
namings_by number [] = []
namings_by number (s ∷ ss) = naming_by number s ++ namings_by (number + 1) ss

namings_are : (k : ℕ) (cs : Caches) → namings k cs ≡ namings_by k (segments_in cs)
namings_are k [] = refl
namings_are k (o ∷ cs) = λ i. first o i ++ namings_are (k + 1) cs i
  where
    first : (o : Option Cache) → naming_at k o ≡ naming_by k (option_map segment_in o)
    first None = refl
    first (Some c) = refl

pub namings_same : (xs ys : Caches) → segments_in ys ≡ segments_in xs → namings 1 ys ≡ namings 1 xs
namings_same xs ys e = namings_are 1 ys ∙ ap (namings_by 1) e ∙ sym (namings_are 1 xs)

segment_are : (m : Machine) (n : ℕ) → segment_of m n ≡ option_and_then (λ s. s) (numbered (segments_in m.caches) n)
segment_are m n = by (cache_of m n) ∙ ap (option_and_then (λ (s : Option ℕ). s)) (sym (numbered-map segment_in m.caches n))
  where
    by : (o : Option Cache) → option_and_then segment_in o ≡ option_and_then (λ s. s) (option_map segment_in o)
    by None = refl
    by (Some c) = refl

pub segment_same : (m n : Machine) → segments_in n.caches ≡ segments_in m.caches → (q : ℕ) → segment_of n q ≡ segment_of m q
segment_same m n e q = segment_are n q ∙ ap (λ (ss : List (Option (Option ℕ))). option_and_then (λ s. s) (numbered ss q)) e ∙ sym (segment_are m q)

abbrev has_by : ℕ → List (Option (Option ℕ)) → Bool
has_by seg [] = false
has_by seg (None ∷ ss) = has_by seg ss
has_by seg (Some s ∷ ss) = cond (option_map_or (λ x. x == seg) s false) true (has_by seg ss)

has_are : (seg : ℕ) (cs : Caches) → has_named seg cs ≡ has_by seg (segments_in cs)
has_are seg [] = refl
has_are seg (None ∷ cs) = has_are seg cs
has_are seg (Some c ∷ cs) = head_named seg (Some c) (cache_named cs seg) ∙ ap (cond (is_named_by seg (Some c)) true) (has_are seg cs)

pub has_same : (seg : ℕ) (xs ys : Caches) → segments_in ys ≡ segments_in xs → has_named seg ys ≡ has_named seg xs
has_same seg xs ys e = has_are seg ys ∙ ap (has_by seg) e ∙ sym (has_are seg xs)

-- bytes tell nothing of them
pub segments_blank : (cs : Caches) → segments_in (map (option_map blank_cache) cs) ≡ segments_in cs
segments_blank [] = refl
segments_blank (None ∷ cs) = ap (λ (ss : List (Option (Option ℕ))). None ∷ ss) (segments_blank cs)
segments_blank (Some c ∷ cs) = ap (λ (ss : List (Option (Option ℕ))). Some c.segment ∷ ss) (segments_blank cs)

pub segments_set : (cs : Caches) (i : ℕ) (c d : Cache) → slice_get cs i ≡ Some (Some c) → d.segment ≡ c.segment → segments_in (set cs i (Some d)) ≡ segments_in cs
segments_set [] i c d there e = refl
segments_set (x ∷ cs) zero c d there e =
    let is : x ≡ Some c = cc there in
    λ i. (ap (λ (s : Option ℕ). Some s) e ∙ ap (option_map segment_in) (sym is)) i ∷ segments_in cs
segments_set (x ∷ cs) (suc i) c d there e = ap (λ (ss : List (Option (Option ℕ))). option_map segment_in x ∷ ss) (segments_set cs i c d there e)

-- What is noted stays tied where the regions that are noted are those of the machine, and the same
-- caches are referred to.
pub tied_alike : (m n : Machine) (told now : Option Segments) (cs : List Named) (ks : List Kept) (room : ℕ) (rs later : List Mapped) → AreTied m told cs ks room rs → segments_in n.caches ≡ segments_in m.caches → map noted_of later ≡ noted_regions 1 n.actors
    → ((q : ℕ) → is_unreferenced_by m cs later q ≡ is_unreferenced_by m cs rs q) → IfSome now (λ h. AreBacked n.caches h) → AreTied n now cs ks room later
tied_alike m n told now cs ks room rs later t e regions alike backed = record {
  caches = t.caches ∙ sym (namings_same m.caches n.caches e);
  regions = regions;
  apart = λ i j seg f g. t.apart i j seg (sym (segment_same m n e i) ∙ f) (sym (segment_same m n e j) ∙ g);
  kept = λ q. t.kept q ∙ unreferenced_same m told cs rs t.regions q ∙ sym (alike q)
      ∙ sym (unreferenced_same n now cs later regions q ∙ ap (λ (o : Option ℕ). is_unreferenced_at q o) (segment_same m n e q));
  named = each_by (λ (k : Kept). segment_of m k.cache.0 ≡ Some k.seg.0) (λ (k : Kept). segment_of n k.cache.0 ≡ Some k.seg.0) (λ k f. segment_same m n e k.cache.0 ∙ f) ks t.named;
  once = t.once;
  fits = t.fits;
  backed = backed;
}
  where
    is_unreferenced_at : ℕ → Option ℕ → Bool
    is_unreferenced_at q o = option_map_or (λ seg. not (nat_lt 0 (openings_in cs seg) || list_any (maps q) later)) o false

-- What is stored

behind : (k j : ℕ) → k + 1 + j ≡ k + suc j
behind k j = omega arith

module _ (m n : ReferenceMachine) where
  -- where the same caches go
  pub stored_alike : (k : ℕ) (xs : Caches) → n.stored ≡ m.stored → GoAlike m n k xs → stored_from n k xs ≡ stored_from m k xs
  stored_alike k [] e same = e
  stored_alike k (x ∷ xs) e same = first x (same 0) (stored_alike (k + 1) xs e (λ j d f. ap (λ (l : ℕ). goes n l d) (behind k j) ∙ same (suc j) d f ∙ ap (λ (l : ℕ). goes m l d) (sym (behind k j))))
    where
      here : (d : Cache) → goes n (k + 0) d ≡ goes m (k + 0) d → goes n k d ≡ goes m k d
      here d f = ap (λ (j : ℕ). goes n j d) (let e : k ≡ k + 0 = omega arith in e) ∙ f ∙ ap (λ (j : ℕ). goes m j d) (let e : k + 0 ≡ k = omega arith in e)

      first : (o : Option Cache) → ((d : Cache) → Some o ≡ Some (Some d) → goes n (k + 0) d ≡ goes m (k + 0) d) → stored_from n (k + 1) xs ≡ stored_from m (k + 1) xs → stored_at n k o (stored_from n (k + 1) xs) ≡ stored_at m k o (stored_from m (k + 1) xs)
      first None f rest = rest
      first (Some d) f rest = λ i. cond (here d (f d refl) i) (put_stored d.segment d.pages (rest i)) (rest i)

module _ (m : ReferenceMachine) where
  -- one that stays is put in place of one that stays
  pub stored_put : (k : ℕ) (xs : Caches) (i : ℕ) (c d : Cache) → slice_get xs i ≡ Some (Some c) → goes m (k + i) c ≡ false → goes m (k + i) d ≡ false → stored_from m k (set xs i (Some d)) ≡ stored_from m k xs
  stored_put k [] i c d there g h = refl
  stored_put k (x ∷ xs) zero c d there g h =
      let is : x ≡ Some c = cc there in
      left d h ∙ sym (ap (λ (o : Option Cache). stored_at m k o (stored_from m (k + 1) xs)) is ∙ left c g)
    where
      left : (e : Cache) → goes m (k + 0) e ≡ false → stored_at m k (Some e) (stored_from m (k + 1) xs) ≡ stored_from m (k + 1) xs
      left e f = ap (λ (b : Bool). cond b (put_stored e.segment e.pages (stored_from m (k + 1) xs)) (stored_from m (k + 1) xs)) (ap (λ (j : ℕ). goes m j e) (let s : k ≡ k + 0 = omega arith in s) ∙ f)
  stored_put k (x ∷ xs) (suc i) c d there g h =
      ap (stored_at m k x) (stored_put (k + 1) xs i c d there (ap (λ (j : ℕ). goes m j c) (behind k i) ∙ g) (ap (λ (j : ℕ). goes m j d) (behind k i) ∙ h))
