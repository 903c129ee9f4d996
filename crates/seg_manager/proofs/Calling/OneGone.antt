-- A cache goes to which nothing refers: what is seen stays, and what is noted stays tied.
use Rattle.std.proofs.Common.{◌≡◌, ◌≢◌, ◌==◌, ℕ, zero, suc, ◌+◌, ◌-◌, ◌≤◌, Bool, true, false, cond, List, [], ◌∷◌, set, filter, Option, Some, None, refl, sym, ap, subst, ◌∙◌, arith, inl, inr}
use Rattle.std.specs.Prelude.{◌||◌, IfSome, is_some, nat_lt, not, option_and_then, slice_get}
use Rattle.std.specs.FinMap.{get}
use Rattle.std.specs.List.{AllByRecursion}
use Rattle.std.specs.Option.{option_map_or}
use Rattle.std.proofs.lemmas.Bool.{cases_eq, eq-eqb, eqb-true, ne_eqb}
use Rattle.std.proofs.lemmas.Bool.Decides.{nat_tests}
use Rattle.vm_model.proofs.Parts.Lists.{numbered_place}
use Rattle.vm_model.proofs.Parts.ListParts.{at_some, numbered_set, numbered_set_other}
use Rattle.vm_model.proofs.Parts.Naming.{segment_cache}
use Rattle.vm_model.proofs.Parts.Pairs.{each_by}
use Rattle.gmi_calls.proofs.BackedCaches.{named_is}
use Rattle.interface_callers.proofs.Words.{AreBacked, Cache, Machine, Page, Segments, cache_named, cache_of, is_mapped, is_named_by, segment_of}
use Rattle.interface_callers.proofs.Blanks.{without}
use Rattle.seg_manager.specs.ReferenceMachine.{ReferenceMachine, goes, is_open, let_go, stored_from, used}
use Rattle.seg_manager.specs.Keeping.{without as but_without}
use Rattle.seg_manager.specs.Seen.{is_kept, openings_in, references_seen, stored_beside, whole_of}
use Rattle.seg_manager.specs.Tying.{AreTied, is_unreferenced}
use Rattle.seg_manager.specs.declared.tables.Kept.{Kept}
use Rattle.seg_manager.specs.declared.tables.Mapped.{Mapped}
use Rattle.seg_manager.specs.declared.tables.Named.{Named}
use Rattle.seg_manager.proofs.Lookup.Entries.{IsOne, filter_few, fun_same, is_other, named_entries, noted_gone, openings_gone}
use Rattle.seg_manager.proofs.Seeing.WhichGo.{Caches, gone_used, goes_same, stored_set, used_same}
use Rattle.seg_manager.proofs.Seeing.WithoutSome.{gone_one}
use Rattle.seg_manager.proofs.Seeing.Naming.{gone_stored, has_named, none_goes, set_named}
use Rattle.seg_manager.proofs.Calling.Pushed.{Follow, Told}
use Rattle.seg_manager.proofs.Seeing.StoredPages.{named_self}

-- what is told is stored for the segments without caches, before and after some pushes
pub beside_told : (m : Machine) (s t : Segments) → Follow m s t → stored_beside m (Some t) ≡ stored_beside m (Some s)
beside_told m s t f = fun_same (stored_beside m (Some t)) (stored_beside m (Some s)) (λ seg. by seg (is_some (cache_named m.caches seg)) refl)
  where
    by : (seg : ℕ) (b : Bool) → is_some (cache_named m.caches seg) ≡ b → cond (is_some (cache_named m.caches seg)) None (get t.pages seg) ≡ cond (is_some (cache_named m.caches seg)) None (get s.pages seg)
    by seg true e = (λ i. cond (e i) None (get t.pages seg)) ∙ sym (λ i. cond (e i) None (get s.pages seg))
    by seg false e = ap (λ (o : Option (List Page)). cond (is_some (cache_named m.caches seg)) None o) (f.beside seg e)

-- What is seen stays where pages are pushed.
pub seen_pushed : (m : Machine) (before now : Option Segments) (caches : List Named) → Told m before now → references_seen m now caches ≡ references_seen m before caches
seen_pushed m None now caches told = ap (λ (o : Option Segments). references_seen m o caches) (told.none refl)
seen_pushed m (Some s) now caches told =
    let t = told.some s refl in
    ap (λ (o : Option Segments). references_seen m o caches) t.1
    ∙ (λ i. let_go (record { memory = m; stored = beside_told m s t.0 t.2 i; openings = openings_in caches }))

-- A segment with one cache has none without it.
pub unnamed : (seg : ℕ) (cs : Caches) (i : ℕ) (c : Cache) → slice_get cs i ≡ Some (Some c) → ((j : ℕ) (d : Cache) → slice_get cs j ≡ Some (Some d) → is_named_by seg (Some d) ≡ true → j ≡ i) → has_named seg (set cs i None) ≡ false
unnamed seg [] i c there only = refl
unnamed seg (o ∷ cs) zero c there only = rest cs (λ j d e named. absurd (let wrong : suc j ≡ 0 = only (suc j) d e named in omega (arith, wrong)))
  where
    rest : (cs : Caches) → ((j : ℕ) (d : Cache) → slice_get cs j ≡ Some (Some d) → is_named_by seg (Some d) ≡ true → ⊥) → has_named seg cs ≡ false
    rest [] none = refl
    rest (None ∷ cs) none = rest cs (λ j d e named. none (suc j) d e named)
    rest (Some d ∷ cs) none = by (is_named_by seg (Some d)) refl (rest cs (λ j d e named. none (suc j) d e named))
      where
        by : (b : Bool) → is_named_by seg (Some d) ≡ b → has_named seg cs ≡ false → has_named seg (Some d ∷ cs) ≡ false
        by true e later = absurd (none 0 d refl e)
        by false e later = ap (λ (b : Bool). is_some (cond b (Some d) (cache_named cs seg))) e ∙ later
unnamed seg (o ∷ cs) (suc i) c there only = by o (λ d e named. let s : 0 ≡ suc i = only 0 d e named in absurd (omega (arith, s))) (unnamed seg cs i c there (λ j d e named. (let s : suc j ≡ suc i = only (suc j) d e named in omega (arith, s))))
  where
    by : (x : Option Cache) → ((d : Cache) → Some o ≡ Some (Some d) → is_named_by seg (Some d) ≡ true → ⊥) → has_named seg (set cs i None) ≡ false → has_named seg (o ∷ set cs i None) ≡ false
    by x none rest = at o none
      where
        at : (y : Option Cache) → ((d : Cache) → Some y ≡ Some (Some d) → is_named_by seg (Some d) ≡ true → ⊥) → has_named seg (y ∷ set cs i None) ≡ false
        at None none = rest
        at (Some d) none = yes (is_named_by seg (Some d)) refl
          where
            yes : (b : Bool) → is_named_by seg (Some d) ≡ b → has_named seg (Some d ∷ set cs i None) ≡ false
            yes true e = absurd (none d refl e)
            yes false e = ap (λ (b : Bool). is_some (cond b (Some d) (cache_named (set cs i None) seg))) e ∙ rest

neither : (a b : Bool) → not (a || b) ≡ true → (a ≡ false) × (b ≡ false)
neither true b e = absurd (cc e)
neither false true e = absurd (cc e)
neither false false e = (refl, refl)

no_opening : (n : ℕ) → nat_lt 0 n ≡ false → n ≡ 0
no_opening n e = grind (arith, nat_tests)

named_not : (seg s : ℕ) (c : Cache) → c.segment ≡ Some s → seg ≢ s → is_named_by seg (Some c) ≡ false
named_not seg s c e apart = ap (λ (o : Option ℕ). option_map_or (λ s. s == seg) o false) e ∙ ne_eqb s seg (λ same. apart (sym same))

named_is_of : (seg : ℕ) (d : Cache) → is_named_by seg (Some d) ≡ true → d.segment ≡ Some seg
named_is_of seg d e = by d.segment e
  where
    by : (o : Option ℕ) → option_map_or (λ s. s == seg) o false ≡ true → o ≡ Some seg
    by None e = absurd (cc e)
    by (Some s) e = ap (λ (n : ℕ). Some n) (eqb-true s seg e)

-- The first of the caches that are kept
module _ (m : Machine) (told : Option Segments) (caches : List Named) (first : Kept) (rest : List Kept) (room : ℕ) (regions : List Mapped) (t : AreTied m told caches (first ∷ rest) room regions) where
  abbrev n : ℕ
  n = first.cache.0

  abbrev seg : ℕ
  seg = first.seg.0

  -- a segment names it
  pub there : (c : Cache) × (cache_of m n ≡ Some c) × (c.segment ≡ Some seg)
  there = segment_cache m n seg t.named.0

  some : 1 ≤ n
  some = (numbered_place m.caches n there.0 there.1).0

  at : slice_get m.caches (n - 1) ≡ Some (Some there.0)
  at = (numbered_place m.caches n there.0 there.1).1

  abbrev W : ReferenceMachine
  W = whole_of m told caches

  kept_first : is_kept (first ∷ rest) n ≡ true
  kept_first = ap (λ (b : Bool). b || is_kept rest n) (eq-eqb n n refl)

  pub unreferenced : is_unreferenced W n ≡ true
  unreferenced = sym (t.kept n) ∙ kept_first

  gone : goes W n there.0 ≡ true
  gone = sym (ap (λ (o : Option Cache). option_map_or (goes W n) o false) there.1) ∙ unreferenced

  free : (is_open W seg ≡ false) × (is_mapped m n ≡ false)
  free = neither (is_open W seg) (is_mapped m n) (sym (ap (λ (o : Option ℕ). option_map_or (λ s. not (is_open W s || is_mapped m n)) o false) there.2) ∙ gone)

  -- no region maps it
  pub first_free : is_mapped m n ≡ false
  first_free = free.1

  -- An entry is of its segment exactly where it is of the cache.
  ones : AllByRecursion (IsOne n seg) caches
  ones = each_by (λ (d : Named). segment_of m d.cache.0 ≡ Some d.seg.0) (IsOne n seg) by caches (named_entries m caches t.caches)
    where
      by : (d : Named) → segment_of m d.cache.0 ≡ Some d.seg.0 → (d.cache.0 == n) ≡ (d.seg.0 == seg)
      by d e = elim (cases_eq d.cache.0 n) [
        | inl same ↦ (let both : Some d.seg.0 ≡ Some seg = sym e ∙ ap (segment_of m) same ∙ t.named.0 in let is : d.seg.0 ≡ seg = cc both in eq-eqb d.cache.0 n same ∙ sym (eq-eqb d.seg.0 seg is))
        | inr other ↦ ne_eqb d.cache.0 n other ∙ sym (ne_eqb d.seg.0 seg (λ is. other (t.apart d.cache.0 n seg (e ∙ ap (λ (x : ℕ). Some x) is) t.named.0)))
      ]

  abbrev pub left : List Named
  left = filter (is_other n) caches

  openings : openings_in left ≡ openings_in caches
  openings = openings_gone n seg caches ones (no_opening (openings_in caches seg) free.0)

  abbrev pub m' : Machine
  m' = without m n

  used_still : (now : Option Segments) → used (whole_of m' now left) 1 (set m.caches (n - 1) None) ≡ used W 1 m.caches
  used_still now =
      used_same W (whole_of m' now left) openings refl 1 (set m.caches (n - 1) None)
      ∙ gone_used W 1 m.caches (n - 1) there.0 at (ap (λ (k : ℕ). goes W k there.0) (let s : 1 + (n - 1) ≡ n = omega (arith, some) in s) ∙ gone)

  only : (j : ℕ) (d : Cache) → slice_get m.caches j ≡ Some (Some d) → is_named_by seg (Some d) ≡ true → j ≡ n - 1
  only j d e named =
      let here : cache_of m (suc j) ≡ Some d = there_at j d e in
      let of : segment_of m (suc j) ≡ Some seg = ap (option_and_then (λ (c : Cache). c.segment)) here ∙ named_is_of seg d named in
      let same : suc j ≡ n = t.apart (suc j) n seg of t.named.0 in
      omega (arith, same)
    where
      there_at : (j : ℕ) (d : Cache) → slice_get m.caches j ≡ Some (Some d) → cache_of m (suc j) ≡ Some d
      there_at j d e = at_some m.caches (suc j) (omega arith) ∙ ap (option_and_then (λ (c : Option Cache). c)) (ap (slice_get m.caches) (let k : suc j - 1 ≡ j = omega arith in k) ∙ e)

  -- no other is of its segment
  pub without_first : but_without (seg ∷ []) m ≡ m'
  without_first = λ i. record m { caches = gone_one seg m.caches (n - 1) there.0 at (named_self seg there.0 there.2) only i }

  -- its segment has no cache then
  nobody : has_named seg (set m.caches (n - 1) None) ≡ false
  nobody = unnamed seg m.caches (n - 1) there.0 at only

  -- What is stored, where the segments are told
  module _ (s u : Segments) (was : told ≡ Some s) (f : Follow m s u) (B : AreBacked m.caches s) (pushed : get u.pages seg ≡ Some there.0.pages) where
    abbrev W' : ReferenceMachine
    W' = whole_of m' (Some u) left

    abbrev V : ReferenceMachine
    V = whole_of m (Some s) caches

    stored_here : stored_from W' 1 (set m.caches (n - 1) None) seg ≡ stored_from V 1 m.caches seg
    stored_here =
        (none_goes seg W' 1 (set m.caches (n - 1) None) nobody).1
        ∙ ap (λ (b : Bool). cond b None (get u.pages seg)) nobody
        ∙ pushed
        ∙ sym (gone_stored seg V 1 m.caches there.0 (named_is m s n seg there.0 B there.1 there.2)
        (ap (has_named seg) (ap (λ (o : Option Segments). used (whole_of m o caches) 1 m.caches) (sym was) ∙ sym (used_still (Some u)) ∙ used_same V W' openings refl 1 (set m.caches (n - 1) None))
        ∙ (none_goes seg V 1 (set m.caches (n - 1) None) nobody).0))

    beside : (x : ℕ) → x ≢ seg → W'.stored x ≡ V.stored x
    beside x apart = by (has_named x m.caches) refl
      where
        same : has_named x (set m.caches (n - 1) None) ≡ has_named x m.caches
        same = set_named x m.caches (n - 1) (Some there.0) None at (named_not x seg there.0 there.2 apart)

        by : (b : Bool) → has_named x m.caches ≡ b → cond (has_named x (set m.caches (n - 1) None)) None (get u.pages x) ≡ cond (has_named x m.caches) None (get s.pages x)
        by true e = ap (λ (b : Bool). cond b None (get u.pages x)) (same ∙ e) ∙ sym (ap (λ (b : Bool). cond b None (get s.pages x)) e)
        by false e = ap (λ (b : Bool). cond b None (get u.pages x)) (same ∙ e) ∙ f.beside x e ∙ sym (ap (λ (b : Bool). cond b None (get s.pages x)) e)

    stored_still : stored_from W' 1 (set m.caches (n - 1) None) ≡ stored_from V 1 m.caches
    stored_still = fun_same (stored_from W' 1 (set m.caches (n - 1) None)) (stored_from V 1 m.caches) (λ x. elim (cases_eq x seg) [
      | inl e ↦ ap (stored_from W' 1 (set m.caches (n - 1) None)) e ∙ stored_here ∙ sym (ap (stored_from V 1 m.caches) e)
      | inr apart ↦ stored_set V W' openings refl x (beside x apart) 1 m.caches (n - 1) (Some there.0) None at (named_not x seg there.0 there.2 apart) refl
    ])

    used_told : used W' 1 (set m.caches (n - 1) None) ≡ used V 1 m.caches
    used_told = used_still (Some u) ∙ used_same V W refl refl 1 m.caches

    seen_told : references_seen m' (Some u) left ≡ references_seen m (Some s) caches
    seen_told = λ i. record { memory = record m { caches = used_told i }; stored = stored_still i; openings = openings i }

  seen_none : references_seen m' None left ≡ references_seen m None caches
  seen_none = λ i. record {
    memory = record m { caches = (used_still None ∙ used_same (whole_of m None caches) W refl refl 1 m.caches) i };
    stored = λ seg. None;
    openings = openings i;
  }

  -- what is held for its segment then, where that is told, is what it had
  abbrev pub IsPushed : Option Segments → Type 0
  IsPushed now = IfSome now (λ u. get u.pages seg ≡ Some there.0.pages)

  -- What is seen stays.
  pub seen_without : (now : Option Segments) → Told m told now → IsPushed now → references_seen m' now left ≡ references_seen m told caches
  seen_without now f pushed = by told refl
    where
      by : (o : Option Segments) → told ≡ o → references_seen m' now left ≡ references_seen m told caches
      by None e = ap (λ (o : Option Segments). references_seen m' o left) (f.none e) ∙ seen_none ∙ ap (λ (o : Option Segments). references_seen m o caches) (sym e)
      by (Some s) e =
          let u = f.some s e in
          ap (λ (o : Option Segments). references_seen m' o left) u.1
          ∙ seen_told s u.0 e u.2 (subst (λ (o : Option Segments). IfSome o (λ h. AreBacked m.caches h)) e t.backed) (subst (λ (o : Option Segments). IsPushed o) u.1 pushed)
          ∙ ap (λ (o : Option Segments). references_seen m o caches) (sym e)

  -- What is noted stays tied.

  other_of : (k seg : ℕ) → segment_of m' k ≡ Some seg → (k ≢ n) × (segment_of m k ≡ Some seg)
  other_of k seg e = elim (cases_eq k n) [
    | inl same ↦ absurd (let none : cache_of m' k ≡ None = ap (cache_of m') same ∙ numbered_set m.caches n there.0 None there.1 in
        let wrong : None ≡ Some seg = sym (ap (option_and_then (λ (c : Cache). c.segment)) none) ∙ e in cc wrong)
    | inr other ↦ (other, sym (ap (option_and_then (λ (c : Cache). c.segment)) (numbered_set_other m.caches n k None some other)) ∙ e)
  ]

  kept_then : (now : Option Segments) (q : ℕ) → is_kept rest q ≡ is_unreferenced (whole_of m' now left) q
  kept_then now q = elim (cases_eq q n) [
    | inl same ↦ ap (is_kept rest) same ∙ t.once.0
        ∙ sym (ap (λ (o : Option Cache). option_map_or (goes (whole_of m' now left) q) o false) (ap (cache_of m') same ∙ numbered_set m.caches n there.0 None there.1))
    | inr other ↦ sym (ap (λ (b : Bool). b || is_kept rest q) (ne_eqb n q (λ e. other (sym e))))
        ∙ t.kept q
        ∙ ap (λ (o : Option Cache). option_map_or (goes W q) o false) (sym (numbered_set_other m.caches n q None some other))
        ∙ sym (λ i. option_map_or (λ c. goes_same W (whole_of m' now left) openings refl q c i) (cache_of m' q) false)
  ]

  named_then : (ks : List Kept) → is_kept ks n ≡ false → AllByRecursion (λ (k : Kept). segment_of m k.cache.0 ≡ Some k.seg.0) ks → AllByRecursion (λ (k : Kept). segment_of m' k.cache.0 ≡ Some k.seg.0) ks
  named_then [] none h = tt
  named_then (k ∷ ks) none h =
      let parts = or_parts (k.cache.0 == n) (is_kept ks n) none in
      let other : k.cache.0 ≢ n = λ e. (let yes : (k.cache.0 == n) ≡ true = eq-eqb k.cache.0 n e in cc (yes, parts.0)) in
      (ap (option_and_then (λ (c : Cache). c.segment)) (numbered_set_other m.caches n k.cache.0 None some other) ∙ h.0, named_then ks parts.1 h.1)
    where
      or_parts : (a b : Bool) → (a || b) ≡ false → (a ≡ false) × (b ≡ false)
      or_parts true b e = absurd (cc e)
      or_parts false b e = (refl, e)

  pub tied_without : (now : Option Segments) → IfSome now (λ h. AreBacked m'.caches h) → AreTied m' now left rest room regions
  tied_without now backed = record {
    caches = noted_gone m caches n some t.caches;
    regions = t.regions;
    apart = λ i j seg e f. t.apart i j seg (other_of i seg e).1 (other_of j seg f).1;
    kept = kept_then now;
    named = named_then rest t.once.0 t.named.1;
    once = t.once.1;
    fits = omega (arith, t.fits, filter_few (is_other n) caches);
    backed = backed;
  }
