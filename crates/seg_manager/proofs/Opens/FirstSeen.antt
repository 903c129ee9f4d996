-- A segment without a cache is opened: what is seen, and what is noted.
use Rattle.std.proofs.Common.{◌≡◌, ◌≢◌, ◌==◌, ◌⊎◌, ℕ, suc, ◌+◌, ◌-◌, ◌<◌, ◌≤◌, Bool, true, false, cond, List, [], ◌∷◌, ◌++◌, length, map, Option, Some, None, refl, sym, ap, ◌∙◌, arith, inl, inr}
use Rattle.std.specs.Prelude.{◌||◌, IfSome, is_some, nat_le, nat_lt, not, option_and_then, option_map, replicate, slice_get, slice_set}
use Rattle.std.specs.FinMap.{get}
use Rattle.std.specs.List.{AllByRecursion, position_from}
use Rattle.std.specs.Option.{option_map_or}
use Rattle.std.proofs.lemmas.Bool.{cases_eq, eq-eqb, eqb-true, ne_eqb}
use Rattle.std.proofs.lemmas.Bool.Decides.{nat_tests}
use Rattle.std.proofs.lemmas.List.{append-nil, length-append, map-append}
use Rattle.vm_model.proofs.Parts.ListParts.{at_some, numbered_past, numbered_push, numbered_pushed}
use Rattle.vm_model.proofs.Parts.Pairs.{each_by}
use Rattle.interface_callers.proofs.Words.{AreBacked, Cache, Machine, Page, SegId, Segments, blank, blank_cache, cache_named, cache_of, is_mapped, is_named_by, opened, segment_of}
use Rattle.interface_callers.proofs.Naming.{has_number}
use Rattle.interface_callers.proofs.Lists.{get_append, get_last, get_snoc}
use Rattle.seg_manager.specs.Inner.{first_of, named_with}
use Rattle.seg_manager.specs.ReferenceMachine.{ReferenceMachine, add_cache, goes, open_one, stored_from, take_stored, used, with_cache}
use Rattle.seg_manager.specs.Seen.{is_kept, openings_in, references_seen, whole_of}
use Rattle.seg_manager.specs.Stepping.{blank_references}
use Rattle.seg_manager.specs.Tying.{AreTied, is_unreferenced, naming_at, naming_of, namings}
use Rattle.seg_manager.specs.declared.tables.Kept.{Kept}
use Rattle.seg_manager.specs.declared.tables.Mapped.{Mapped}
use Rattle.seg_manager.specs.declared.tables.Named.{Named}
use Rattle.seg_manager.proofs.Seeing.ReferenceComes.{GoAlike, used_all}
use Rattle.seg_manager.proofs.Lookup.Entries.{fun_same}
use Rattle.seg_manager.proofs.Seeing.WhichGo.{Caches, length_used, push_used}
use Rattle.seg_manager.proofs.Seeing.Naming.{append_named}
use Rattle.seg_manager.proofs.Opens.Outcome.{appended, number_next}
use Rattle.seg_manager.proofs.Calling.Pushed.{Follow}
use Rattle.seg_manager.proofs.Seeing.Steps.{blank_used}
use Rattle.seg_manager.proofs.Seeing.StoredPages.{apart_by, named_self, stored_free, stored_one}
use Rattle.seg_manager.proofs.Seeing.Unused.{entry_there, named_openings, ones_of}

pub namings_push : (k : ℕ) (cs : Caches) (c : Cache) → namings k (cs ++ Some c ∷ []) ≡ namings k cs ++ naming_at (k + length cs) (Some c)
namings_push k [] c = append-nil (naming_at k (Some c)) ∙ ap (λ (n : ℕ). naming_at n (Some c)) (let e : k ≡ k + 0 = omega arith in e)
namings_push k (o ∷ cs) c =
    ap (λ xs. naming_at k o ++ xs) (namings_push (k + 1) cs c ∙ ap (λ (n : ℕ). namings (k + 1) cs ++ naming_at n (Some c)) (let e : k + 1 + length cs ≡ k + suc (length cs) = omega arith in e))
    ∙ sym (append_assoc (naming_at k o) (namings (k + 1) cs) (naming_at (k + suc (length cs)) (Some c)))
  where
    append_assoc : {A : Type 0} (xs ys zs : List A) → (xs ++ ys) ++ zs ≡ xs ++ (ys ++ zs)
    append_assoc [] ys zs = refl
    append_assoc (x ∷ xs) ys zs = ap (λ ws. x ∷ ws) (append_assoc xs ys zs)

-- Openings

-- no entry is of the segment
none_of : (s k : ℕ) (cs : List Named) → position_from (first_of s) k cs ≡ None → AllByRecursion (λ (c : Named). (c.seg.0 == s) ≡ false) cs
none_of s k [] e = tt
none_of s k (c ∷ cs) e = by (c.seg.0 == s) refl e (none_of s (k + 1) cs)
  where
    by : (b : Bool) → (c.seg.0 == s) ≡ b → cond b (Some k) (position_from (first_of s) (k + 1) cs) ≡ None → (position_from (first_of s) (k + 1) cs ≡ None → AllByRecursion (λ (c : Named). (c.seg.0 == s) ≡ false) cs)
        → AllByRecursion (λ (c : Named). (c.seg.0 == s) ≡ false) (c ∷ cs)
    by true t e rest = absurd (cc e)
    by false t e rest = (t, rest e)

openings_push : (cs : List Named) (d : Named) (s : ℕ) → d.seg.0 ≡ s → d.openings ≡ 1 → AllByRecursion (λ (c : Named). (c.seg.0 == s) ≡ false) cs → (x : ℕ) → openings_in (cs ++ d ∷ []) x ≡ cond (x == s) (openings_in cs s + 1) (openings_in cs x)
openings_push [] d s of one none x = elim (cases_eq x s) [
  | inl e ↦ ap (λ (b : Bool). cond b d.openings 0) (eq-eqb d.seg.0 x (of ∙ sym e)) ∙ one ∙ sym (ap (λ (b : Bool). cond b (0 + 1) 0) (eq-eqb x s e))
  | inr other ↦ ap (λ (b : Bool). cond b d.openings 0) (ne_eqb d.seg.0 x (λ e. other (sym e ∙ of))) ∙ sym (ap (λ (b : Bool). cond b (0 + 1) 0) (ne_eqb x s other))
]
openings_push (c ∷ cs) d s of one none x =
    ap (cond (c.seg.0 == x) c.openings) (openings_push cs d s of one none.1 x)
    ∙ by (x == s) refl
  where
    by : (b : Bool) → (x == s) ≡ b → cond (c.seg.0 == x) c.openings (cond (x == s) (openings_in cs s + 1) (openings_in cs x)) ≡ cond (x == s) (cond (c.seg.0 == s) c.openings (openings_in cs s) + 1) (cond (c.seg.0 == x) c.openings (openings_in cs x))
    by true e =
        let is : x ≡ s = eqb-true x s e in
        (λ i. cond ((ap (λ (y : ℕ). c.seg.0 == y) is ∙ none.0) i) c.openings (cond (e i) (openings_in cs s + 1) (openings_in cs x)))
        ∙ sym (λ i. cond (e i) (cond (none.0 i) c.openings (openings_in cs s) + 1) (cond (c.seg.0 == x) c.openings (openings_in cs x)))
    by false e =
        (λ i. cond (c.seg.0 == x) c.openings (cond (e i) (openings_in cs s + 1) (openings_in cs x)))
        ∙ sym (λ i. cond (e i) (cond (c.seg.0 == s) c.openings (openings_in cs s) + 1) (cond (c.seg.0 == x) c.openings (openings_in cs x)))

-- What isn't noted isn't named.
module _ (m : Machine) (told : Option Segments) (cs : List Named) (ks : List Kept) (room : ℕ) (rs : List Mapped) (t : AreTied m told cs ks room rs) (seg : SegId) (anew : position_from (first_of seg.0) 0 cs ≡ None) where
  none : AllByRecursion (λ (c : Named). (c.seg.0 == seg.0) ≡ false) cs
  none = none_of seg.0 0 cs anew

  not_found : (n : ℕ) (ds : List Named) (e : Named) → AllByRecursion (λ (c : Named). (c.seg.0 == seg.0) ≡ false) ds → named_with n ds ≡ Some e → e.seg.0 ≡ seg.0 → ⊥
  not_found n [] e h f s = absurd (cc f)
  not_found n (d ∷ ds) e h f s = by (d.cache.0 == n) f (not_found n ds e h.1)
    where
      by : (b : Bool) → cond b (Some d) (named_with n ds) ≡ Some e → (named_with n ds ≡ Some e → e.seg.0 ≡ seg.0 → ⊥) → ⊥
      by true f rest =
          let same : d ≡ e = cc f in
          let yes : (d.seg.0 == seg.0) ≡ true = eq-eqb d.seg.0 seg.0 (ap (λ (x : Named). x.seg.0) same ∙ s) in
          let wrong : false ≡ true = sym h.0 ∙ yes in
          absurd (cc wrong)
      by false f rest = rest f s

  pub nobody : (k : ℕ) → segment_of m k ≡ Some seg.0 → ⊥
  nobody k e =
      let x = entry_there m cs t.caches k seg.0 e in
      not_found k cs x.0 none x.1 (entry_of k e)
    where
      entry_of : (k : ℕ) → (e : segment_of m k ≡ Some seg.0) → (let x = entry_there m cs t.caches k seg.0 e in x.0.seg.0 ≡ seg.0)
      entry_of k e = (named_openings k seg.0 cs (ones_of m cs t.caches t.apart k seg.0 e) (entry_there m cs t.caches k seg.0 e).0 (entry_there m cs t.caches k seg.0 e).1).0

  pub unnamed : is_some (cache_named m.caches seg.0) ≡ false
  unnamed = by (cache_named m.caches seg.0) refl
    where
      by : (o : Option Cache) → cache_named m.caches seg.0 ≡ o → is_some o ≡ false
      by None e = refl
      by (Some c) e =
          let at = has_number seg.0 m.caches c e in
          let there : cache_of m (suc at.place) ≡ Some c = at_some m.caches (suc at.place) (omega arith) ∙ ap (option_and_then (λ (x : Option Cache). x)) (ap (slice_get m.caches) (let k : suc at.place - 1 ≡ at.place = omega arith in k) ∙ at.there) in
          absurd (nobody (suc at.place) (ap (option_and_then (λ (c : Cache). c.segment)) there ∙ at.named))

  -- One cache more, which is noted
  module _ (pages : List Page) (d : Named) (of : d.seg.0 ≡ seg.0) (number : d.cache.0 ≡ number_next m) (one : d.openings ≡ 1) (now : Option Segments) where
    abbrev c : Cache
    c = opened seg.0 pages

    abbrev pub n : Machine
    n = appended m c

    abbrev W : ReferenceMachine
    W = whole_of m told cs

    abbrev V : ReferenceMachine
    V = whole_of n now (cs ++ d ∷ [])

    openings_are : (x : ℕ) → openings_in (cs ++ d ∷ []) x ≡ cond (x == seg.0) (openings_in cs seg.0 + 1) (openings_in cs x)
    openings_are = openings_push cs d seg.0 of one none

    pub openings_fun : openings_in (cs ++ d ∷ []) ≡ (λ x. cond (x == seg.0) (openings_in cs seg.0 + 1) (openings_in cs x))
    openings_fun = fun_same (openings_in (cs ++ d ∷ [])) (λ x. cond (x == seg.0) (openings_in cs seg.0 + 1) (openings_in cs x)) openings_are

    is_open_now : nat_lt 0 (openings_in (cs ++ d ∷ []) seg.0) ≡ true
    is_open_now =
        let are : openings_in (cs ++ d ∷ []) seg.0 ≡ openings_in cs seg.0 + 1 = openings_are seg.0 ∙ ap (λ (b : Bool). cond b (openings_in cs seg.0 + 1) (openings_in cs seg.0)) (eq-eqb seg.0 seg.0 refl) in
        let some : 1 ≤ openings_in (cs ++ d ∷ []) seg.0 = omega (arith, are) in
        grind (arith, nat_tests)

    -- the new cache doesn't go
    stays : (k : ℕ) → goes V k c ≡ false
    stays k = ap (λ (b : Bool). not (b || is_mapped n k)) is_open_now

    goes_other : (q : ℕ) (e : Cache) → cache_of m q ≡ Some e → goes V q e ≡ goes W q e
    goes_other q e there = by e.segment (ap (option_and_then (λ (c : Cache). c.segment)) there)
      where
        by : (s : Option ℕ) → segment_of m q ≡ s → option_map_or (λ s. not (nat_lt 0 (openings_in (cs ++ d ∷ []) s) || is_mapped m q)) s false ≡ option_map_or (λ s. not (nat_lt 0 (openings_in cs s) || is_mapped m q)) s false
        by None f = refl
        by (Some s) f =
            let other : s ≢ seg.0 = λ same. nobody q (f ∙ ap (λ (x : ℕ). Some x) same) in
            ap (λ (k : ℕ). not (nat_lt 0 k || is_mapped m q)) (openings_are s ∙ ap (λ (b : Bool). cond b (openings_in cs seg.0 + 1) (openings_in cs s)) (ne_eqb s seg.0 other))

    cache_at : (j : ℕ) (e : Cache) → slice_get m.caches j ≡ Some (Some e) → cache_of m (1 + j) ≡ Some e
    cache_at j e there = at_some m.caches (1 + j) (omega arith) ∙ ap (option_and_then (λ (x : Option Cache). x)) (ap (slice_get m.caches) (let k : 1 + j - 1 ≡ j = omega arith in k) ∙ there)

    alike : GoAlike W V 1 m.caches
    alike j e there = goes_other (1 + j) e (cache_at j e there)

    -- What is noted is tied.

    last : (q : ℕ) → q ≡ number_next m → cache_of n q ≡ Some c
    last q e = numbered_pushed m.caches (Some c) q e

    same : (q : ℕ) → q ≢ number_next m → cache_of n q ≡ cache_of m q
    same q apart = numbered_push m.caches (Some c) q apart

    nothing : (q : ℕ) → q ≡ number_next m → cache_of m q ≡ None
    nothing q e = numbered_past m.caches q e

    old_segment : (q s : ℕ) → segment_of m q ≡ Some s → q ≢ number_next m
    old_segment q s e is = (let wrong : None ≡ Some s = sym (ap (option_and_then (λ (c : Cache). c.segment)) (nothing q is)) ∙ e in cc wrong)

    segment_either : (q s : ℕ) → segment_of n q ≡ Some s → ((q ≡ number_next m) × (s ≡ seg.0)) ⊎ (segment_of m q ≡ Some s)
    segment_either q s e = elim (cases_eq q (number_next m)) [
      | inl is ↦ inl (is, (let both : Some seg.0 ≡ Some s = sym (ap (option_and_then (λ (c : Cache). c.segment)) (last q is)) ∙ e in let same : seg.0 ≡ s = cc both in sym same))
      | inr apart ↦ inr (sym (ap (option_and_then (λ (c : Cache). c.segment)) (same q apart)) ∙ e)
    ]

    apart_then : (i j s : ℕ) → segment_of n i ≡ Some s → segment_of n j ≡ Some s → i ≡ j
    apart_then i j s e f = elim (segment_either i s e) [
      | inl a ↦ elim (segment_either j s f) [
        | inl b ↦ a.0 ∙ sym b.0
        | inr b ↦ absurd (nobody j (b ∙ ap (λ (x : ℕ). Some x) a.1))
      ]
      | inr a ↦ elim (segment_either j s f) [
        | inl b ↦ absurd (nobody i (a ∙ ap (λ (x : ℕ). Some x) b.1))
        | inr b ↦ t.apart i j s a b
      ]
    ]

    kept_then : (q : ℕ) → is_kept ks q ≡ is_unreferenced V q
    kept_then q = elim (cases_eq q (number_next m)) [
      | inl is ↦ t.kept q ∙ ap (λ (o : Option Cache). option_map_or (goes W q) o false) (nothing q is) ∙ sym (ap (λ (o : Option Cache). option_map_or (goes V q) o false) (last q is) ∙ stays q)
      | inr apart ↦ t.kept q ∙ by (cache_of m q) refl ∙ ap (λ (o : Option Cache). option_map_or (goes V q) o false) (sym (same q apart))
    ]
      where
        by : (o : Option Cache) → cache_of m q ≡ o → option_map_or (goes W q) o false ≡ option_map_or (goes V q) o false
        by None e = refl
        by (Some x) e = sym (goes_other q x e)

    pub tied_anew : length cs + 1 ≤ room → IfSome now (λ h. AreBacked n.caches h) → AreTied n now (cs ++ d ∷ []) ks room rs
    tied_anew fits backed = record {
      caches = map-append naming_of cs (d ∷ [])
          ∙ (λ i. t.caches i ++ (record { seg = of i; cache = (number ∙ (let e : number_next m ≡ 1 + length m.caches = omega arith in e)) i }) ∷ [])
          ∙ sym (namings_push 1 m.caches c);
      regions = t.regions;
      apart = apart_then;
      kept = kept_then;
      named = each_by (λ (k : Kept). segment_of m k.cache.0 ≡ Some k.seg.0) (λ (k : Kept). segment_of n k.cache.0 ≡ Some k.seg.0)
          (λ k e. ap (option_and_then (λ (c : Cache). c.segment)) (same k.cache.0 (old_segment k.cache.0 k.seg.0 e)) ∙ e) ks t.named;
      once = t.once;
      fits = omega (arith, fits, length-append cs (d ∷ []));
      backed = backed;
    }

    -- What is seen

    caches_then : used V 1 n.caches ≡ with_cache (used W 1 m.caches) (number_next m) c
    caches_then =
        push_used V 1 m.caches (Some c)
        ∙ (λ i. used_all W V 1 m.caches alike i ++ cond (stays (1 + length m.caches) i) None (Some c) ∷ [])
        ∙ ap (λ (k : ℕ). used W 1 m.caches ++ (replicate k None ++ Some c ∷ [])) (let e : 0 ≡ number_next m - 1 - length (used W 1 m.caches) = omega (arith, length_used W 1 m.caches) in e)
        ∙ sym (ap (λ (b : Bool). cond b (slice_set (used W 1 m.caches) (number_next m - 1) (Some c)) (used W 1 m.caches ++ (replicate (number_next m - 1 - length (used W 1 m.caches)) None ++ Some c ∷ []))) past)
      where
        past : nat_le (number_next m) (length (used W 1 m.caches)) ≡ false
        past = let h : length (used W 1 m.caches) < number_next m = omega (arith, length_used W 1 m.caches) in grind (arith, nat_tests)

    -- What is stored, where it is told
    module _ (s u : Segments) (f : Follow m s u) where
      abbrev W' : ReferenceMachine
      W' = whole_of m (Some s) cs

      abbrev V' : ReferenceMachine
      V' = whole_of n (Some u) (cs ++ d ∷ [])

      append_front : (x : ℕ) (xs ys : Caches) (e : Cache) → cache_named xs x ≡ Some e → cache_named (xs ++ ys) x ≡ Some e
      append_front x [] ys e h = absurd (cc h)
      append_front x (o ∷ xs) ys e h = by (is_named_by x o) h (append_front x xs ys e)
        where
          by : (b : Bool) → cond b o (cache_named xs x) ≡ Some e → (cache_named xs x ≡ Some e → cache_named (xs ++ ys) x ≡ Some e) → cond b o (cache_named (xs ++ ys) x) ≡ Some e
          by true h rest = h
          by false h rest = rest h

      named_now : cache_named n.caches seg.0 ≡ Some c
      named_now = append_named seg.0 m.caches (Some c ∷ []) unnamed ∙ ap (λ (b : Bool). cond b (Some c) None) (eq-eqb seg.0 seg.0 refl)

      only_last : (j : ℕ) (e : Cache) → slice_get n.caches j ≡ Some (Some e) → is_named_by seg.0 (Some e) ≡ true → j ≡ length m.caches
      only_last j e h named = elim (get_snoc m.caches (Some c) j (Some e) h) [
        | inr last ↦ last.0
        | inl front ↦ absurd (nobody (1 + j) (ap (option_and_then (λ (c : Cache). c.segment)) (cache_at j e front) ∙ of_name e.segment named))
      ]
        where
          of_name : (o : Option ℕ) → option_map_or (λ s. s == seg.0) o false ≡ true → o ≡ Some seg.0
          of_name None e = absurd (cc e)
          of_name (Some s) e = ap (λ (k : ℕ). Some k) (eqb-true s seg.0 e)

      only_front : (x : ℕ) → x ≢ seg.0 → (j : ℕ) (e : Cache) → slice_get m.caches j ≡ Some (Some e) → is_named_by x (Some e) ≡ true → (i : ℕ) (y : Cache) → slice_get n.caches i ≡ Some (Some y) → is_named_by x (Some y) ≡ true → i ≡ j
      only_front x other j e there named i y h g = elim (get_snoc m.caches (Some c) i (Some y) h) [
        | inl front ↦ apart_by m t.apart i j x y e front there g named
        | inr last ↦ absurd (let is : y ≡ c = (let both : Some y ≡ Some c = last.1 in cc both) in
            let wrong : x ≡ seg.0 = sym (eqb-true seg.0 x (ap (λ (z : Cache). is_named_by x (Some z)) (sym is) ∙ g)) in other wrong)
      ]

      at_new : stored_from V' 1 n.caches seg.0 ≡ None
      at_new =
          stored_one V' seg.0 1 n.caches (length m.caches) c (get_last m.caches (Some c)) (named_self seg.0 c refl) only_last
          ∙ ap (λ (b : Bool). cond b (Some c.pages) (V'.stored seg.0)) (stays (1 + length m.caches))
          ∙ ap (λ (o : Option Cache). cond (is_some o) None (get u.pages seg.0)) named_now

      at_other : (x : ℕ) → x ≢ seg.0 → (o : Option Cache) → cache_named m.caches x ≡ o → stored_from V' 1 n.caches x ≡ stored_from W' 1 m.caches x
      at_other x other None e =
          let nowhere : cache_named n.caches x ≡ None = append_named x m.caches (Some c ∷ []) (ap is_some e) ∙ ap (λ (b : Bool). cond b (Some c) None) (ne_eqb seg.0 x (λ s. other (sym s))) in
          stored_free V' x 1 n.caches nowhere
          ∙ ap (λ (o : Option Cache). cond (is_some o) None (get u.pages x)) nowhere
          ∙ f.beside x (ap is_some e)
          ∙ sym (ap (λ (o : Option Cache). cond (is_some o) None (get s.pages x)) e)
          ∙ sym (stored_free W' x 1 m.caches e)
      at_other x other (Some e) is =
          let at = has_number x m.caches e is in
          let named = named_self x e at.named in
          stored_one V' x 1 n.caches at.place e (get_append m.caches (Some c ∷ []) at.place (Some e) at.there) named (only_front x other at.place e at.there named)
          ∙ (λ i. cond (alike at.place e at.there i) (Some e.pages) (cond (is_some (append_front x m.caches (Some c ∷ []) e is i)) None (get u.pages x)))
          ∙ sym (ap (λ (o : Option Cache). cond (goes W' (1 + at.place) e) (Some e.pages) (cond (is_some o) None (get s.pages x))) is)
          ∙ sym (stored_one W' x 1 m.caches at.place e at.there named (λ i y h g. apart_by m t.apart i at.place x y e h at.there g named))

      pub stored_then : stored_from V' 1 n.caches ≡ (λ x. cond (x == seg.0) None (stored_from W' 1 m.caches x))
      stored_then = fun_same (stored_from V' 1 n.caches) (λ x. cond (x == seg.0) None (stored_from W' 1 m.caches x)) (λ x. elim (cases_eq x seg.0) [
        | inl e ↦ ap (stored_from V' 1 n.caches) e ∙ at_new ∙ sym (ap (λ (b : Bool). cond b None (stored_from W' 1 m.caches x)) (eq-eqb x seg.0 e))
        | inr other ↦ at_other x other (cache_named m.caches x) refl ∙ sym (ap (λ (b : Bool). cond b None (stored_from W' 1 m.caches x)) (ne_eqb x seg.0 other))
      ])

-- the machine of the definition, where it has these pages stored for the segment
abbrev pub opened_next : ReferenceMachine → ℕ → SegId → List Page → ReferenceMachine
opened_next r number seg pages = open_one seg.0 (add_cache (take_stored seg.0 r) number (opened seg.0 pages))

module _ (m : Machine) (cs : List Named) (ks : List Kept) (room : ℕ) (rs : List Mapped) (seg : SegId) (anew : position_from (first_of seg.0) 0 cs ≡ None)
    (pages : List Page) (d : Named) (of : d.seg.0 ≡ seg.0) (number : d.cache.0 ≡ number_next m) (one : d.openings ≡ 1) where
  abbrev more : Machine
  more = appended m (opened seg.0 pages)

  pub seen_told : (s u : Segments) (t : AreTied m (Some s) cs ks room rs) → Follow m s u → references_seen more (Some u) (cs ++ d ∷ []) ≡ opened_next (references_seen m (Some s) cs) (number_next m) seg pages
  seen_told s u t f = λ i. record {
    memory = record m { caches = caches_then m (Some s) cs ks room rs t seg anew pages d of number one (Some u) i };
    stored = stored_then m (Some s) cs ks room rs t seg anew pages d of number one (Some u) s u f i;
    openings = openings_fun m (Some s) cs ks room rs t seg anew pages d of number one (Some u) i;
  }

  pub seen_untold : (t : AreTied m None cs ks room rs) → more ≡ blank more → references_seen more None (cs ++ d ∷ []) ≡ blank_references (opened_next (record (references_seen m None cs) { stored = λ x. Some pages }) (number_next m) seg pages)
  seen_untold t bare = λ i. record {
    memory = record m {
      caches = (ap (used V 1) (ap (λ (x : Machine). x.caches) bare) ∙ sym (blank_used V 1 more.caches)
          ∙ ap (map (option_map blank_cache)) (caches_then m None cs ks room rs t seg anew pages d of number one None)) i;
    };
    stored = λ x. None;
    openings = openings_fun m None cs ks room rs t seg anew pages d of number one None i;
  }
    where
      V : ReferenceMachine
      V = whole_of more None (cs ++ d ∷ [])
