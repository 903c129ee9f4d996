-- A segment that has a cache is opened once more.
use Rattle.std.proofs.Common.{◌≡◌, ◌≢◌, ◌==◌, ℕ, suc, ◌+◌, ◌-◌, ◌≤◌, Bool, true, false, cond, List, [], ◌∷◌, length, set, map, filter, Option, Some, None, refl, sym, ap, ◌∙◌, arith, inl, inr}
use Rattle.std.specs.Prelude.{◌||◌, nat_lt, not, option_and_then, option_map, slice_get}
use Rattle.std.specs.List.{position_from}
use Rattle.std.specs.Option.{option_map_or}
use Rattle.std.proofs.lemmas.Bool.{cases_eq, eq-eqb, eqb-true, ne_eqb, or_parts}
use Rattle.std.proofs.lemmas.Bool.Decides.{nat_tests}
use Rattle.std.proofs.lemmas.List.{length-set}
use Rattle.vm_model.proofs.Parts.Lists.{numbered_place}
use Rattle.vm_model.proofs.Parts.ListParts.{at_some}
use Rattle.vm_model.proofs.Parts.Naming.{segment_cache}
use Rattle.interface_callers.proofs.Words.{Cache, Machine, SegId, Segments, cache_of, is_mapped, is_named_by, segment_of}
use Rattle.interface_callers.proofs.Lists.{all_at}
use Rattle.seg_manager.specs.Inner.{first_of, is_of}
use Rattle.seg_manager.specs.ReferenceMachine.{ReferenceMachine, goes, let_go, number_in, stored_from, used, used_at}
use Rattle.seg_manager.specs.Seen.{is_kept, openings_in, whole_of}
use Rattle.seg_manager.specs.Tying.{AreOnce, AreTied, is_unreferenced, naming_of, namings}
use Rattle.seg_manager.specs.declared.tables.Kept.{Kept}
use Rattle.seg_manager.specs.declared.tables.Mapped.{Mapped}
use Rattle.seg_manager.specs.declared.tables.Named.{Named}
use Rattle.seg_manager.proofs.Leaves.OpeningTakenBack.{Reopened, naming_set, reopened}
use Rattle.seg_manager.proofs.Seeing.ReferenceComes.{GoAlike, GoAlikeBut}
use Rattle.seg_manager.proofs.Lookup.Entries.{fun_same, named_entries, still_all}
use Rattle.seg_manager.proofs.Seeing.WhichGo.{Caches, get_used, numbered_used}
use Rattle.seg_manager.proofs.Leaves.CloseCall.{number_found}
use Rattle.seg_manager.proofs.Seeing.StoredPages.{apart_by, named_self, stored_one}

-- Kept no longer

abbrev pub others_kept : ℕ → List Kept → List Kept
others_kept n ks = filter (λ k. not (is_of n k)) ks

pub kept_gone : (n : ℕ) (ks : List Kept) → is_kept (others_kept n ks) n ≡ false
kept_gone n [] = refl
kept_gone n (k ∷ ks) = by (k.cache.0 == n) refl (kept_gone n ks)
  where
    by : (b : Bool) → (k.cache.0 == n) ≡ b → is_kept (others_kept n ks) n ≡ false → is_kept (cond (not b) (k ∷ others_kept n ks) (others_kept n ks)) n ≡ false
    by true e rest = rest
    by false e rest = (λ i. e i || is_kept (others_kept n ks) n) ∙ rest

pub kept_other : (n q : ℕ) (ks : List Kept) → q ≢ n → is_kept (others_kept n ks) q ≡ is_kept ks q
kept_other n q [] apart = refl
kept_other n q (k ∷ ks) apart = by (k.cache.0 == n) refl (kept_other n q ks apart)
  where
    by : (b : Bool) → (k.cache.0 == n) ≡ b → is_kept (others_kept n ks) q ≡ is_kept ks q → is_kept (cond (not b) (k ∷ others_kept n ks) (others_kept n ks)) q ≡ ((k.cache.0 == q) || is_kept ks q)
    by true e rest =
        let is : k.cache.0 ≡ n = eqb-true k.cache.0 n e in
        rest ∙ sym (ap (λ (b : Bool). b || is_kept ks q) (ne_eqb k.cache.0 q (λ s. apart (sym s ∙ is))))
    by false e rest = ap (λ (b : Bool). (k.cache.0 == q) || b) rest

still_free : (p : Kept → Bool) (ks : List Kept) (q : ℕ) → is_kept ks q ≡ false → is_kept (filter p ks) q ≡ false
still_free p [] q e = refl
still_free p (k ∷ ks) q e = let parts = or_parts (k.cache.0 == q) (is_kept ks q) e in by (p k) parts.0 (still_free p ks q parts.1)
  where
    by : (b : Bool) → (k.cache.0 == q) ≡ false → is_kept (filter p ks) q ≡ false → is_kept (cond b (k ∷ filter p ks) (filter p ks)) q ≡ false
    by true first rest = (λ i. first i || is_kept (filter p ks) q) ∙ rest
    by false first rest = rest

pub once_filter : (p : Kept → Bool) (ks : List Kept) → AreOnce ks → AreOnce (filter p ks)
once_filter p [] h = tt
once_filter p (k ∷ ks) h = by (p k) (still_free p ks k.cache.0 h.0) (once_filter p ks h.1)
  where
    by : (b : Bool) → is_kept (filter p ks) k.cache.0 ≡ false → AreOnce (filter p ks) → AreOnce (cond b (k ∷ filter p ks) (filter p ks))
    by true first rest = (first, rest)
    by false first rest = rest

-- Where caches are among those that don't go

pub used_entry : (r : ReferenceMachine) (xs : Caches) (j : ℕ) (d : Cache) → slice_get (used r 1 xs) j ≡ Some (Some d) → slice_get xs j ≡ Some (Some d)
used_entry r xs j d e = by (slice_get xs j) refl (sym (get_used r 1 xs j) ∙ e)
  where
    kept : (x : Cache) (b : Bool) → Some (cond b None (Some x)) ≡ Some (Some d) → Some (Some x) ≡ Some (Some d)
    kept x true e = absurd (let wrong : None ≡ Some d = cc e in cc wrong)
    kept x false e = e

    by : (o : Option (Option Cache)) → slice_get xs j ≡ o → option_map (used_at r (1 + j)) o ≡ Some (Some d) → slice_get xs j ≡ Some (Some d)
    by None is e = absurd (cc e)
    by (Some None) is e = absurd (let wrong : None ≡ Some d = cc e in cc wrong)
    by (Some (Some x)) is e = is ∙ kept x (goes r (1 + j) x) e

pub number_none : (seg k : ℕ) (cs : Caches) → ((j : ℕ) (d : Cache) → slice_get cs j ≡ Some (Some d) → is_named_by seg (Some d) ≡ true → ⊥) → number_in k cs seg ≡ None
number_none seg k [] none = refl
number_none seg k (o ∷ cs) none = by o (none 0) ∙ number_none seg (k + 1) cs (λ j d e n. none (suc j) d e n)
  where
    at : (d : Cache) (b : Bool) → is_named_by seg (Some d) ≡ b → (is_named_by seg (Some d) ≡ true → ⊥) → cond b (Some k) (number_in (k + 1) cs seg) ≡ number_in (k + 1) cs seg
    at d true e none = absurd (none e)
    at d false e none = refl

    by : (o : Option Cache) → ((d : Cache) → Some o ≡ Some (Some d) → is_named_by seg (Some d) ≡ true → ⊥) → cond (is_named_by seg o) (Some k) (number_in (k + 1) cs seg) ≡ number_in (k + 1) cs seg
    by None none = refl
    by (Some d) none = at d (is_named_by seg (Some d)) refl (none d refl)

-- The call

module _ (m : Machine) (told : Option Segments) (cs : List Named) (ks : List Kept) (room : ℕ) (rs : List Mapped) (t : AreTied m told cs ks room rs) (seg : SegId) (place : ℕ) (named : Named)
    (first : position_from (first_of seg.0) 0 cs ≡ Some place) (place_is : slice_get cs place ≡ Some named) (now : List Named) (is : now ≡ set cs place (record named { openings = named.openings + 1 })) where
  abbrev pub n : ℕ
  n = named.cache.0

  abbrev W : ReferenceMachine
  W = whole_of m told cs

  abbrev V : ReferenceMachine
  V = whole_of m told now

  again : Reopened seg.0 (named.openings + 1) cs place named
  again = reopened seg.0 (named.openings + 1) 0 cs place named (first ∙ ap (λ (j : ℕ). Some j) (let e : place ≡ 0 + place = omega arith in e)) place_is

  openings_are : (x : ℕ) → openings_in now x ≡ cond (x == seg.0) (openings_in cs seg.0 + 1) (openings_in cs x)
  openings_are x = ap (λ (ds : List Named). openings_in ds x) is ∙ again.now x ∙ ap (λ (k : ℕ). cond (x == seg.0) (k + 1) (openings_in cs x)) (sym again.was)

  pub openings_fun : openings_in now ≡ (λ x. cond (x == seg.0) (openings_in cs seg.0 + 1) (openings_in cs x))
  openings_fun = fun_same (openings_in now) (λ x. cond (x == seg.0) (openings_in cs seg.0 + 1) (openings_in cs x)) openings_are

  now_open : nat_lt 0 (openings_in now seg.0) ≡ true
  now_open =
      let are : openings_in now seg.0 ≡ openings_in cs seg.0 + 1 = openings_are seg.0 ∙ ap (λ (b : Bool). cond b (openings_in cs seg.0 + 1) (openings_in cs seg.0)) (eq-eqb seg.0 seg.0 refl) in
      let some : 1 ≤ openings_in now seg.0 = omega (arith, are) in
      grind (arith, nat_tests)

  pub of : segment_of m n ≡ Some seg.0
  of = all_at (λ (d : Named). segment_of m d.cache.0 ≡ Some d.seg.0) cs place named (named_entries m cs t.caches) place_is ∙ ap (λ (x : ℕ). Some x) again.of

  pub it : (c : Cache) × (cache_of m n ≡ Some c) × (c.segment ≡ Some seg.0)
  it = segment_cache m n seg.0 of

  abbrev pub c : Cache
  c = it.0

  pub at : (1 ≤ n) × (slice_get m.caches (n - 1) ≡ Some (Some c))
  at = numbered_place m.caches n c it.1

  pub mine : is_named_by seg.0 (Some c) ≡ true
  mine = named_self seg.0 c it.2

  pub number : 1 + (n - 1) ≡ n
  number = omega (arith, at.0)

  noted : map naming_of now ≡ namings 1 m.caches
  noted = ap (map naming_of) is ∙ naming_set (named.openings + 1) cs place named place_is ∙ t.caches

  -- it doesn't go
  stays : goes V n c ≡ false
  stays =
      ap (λ (o : Option ℕ). option_map_or (λ s. not (nat_lt 0 (openings_in now s) || is_mapped m n)) o false) it.2
      ∙ ap (λ (b : Bool). not (b || is_mapped m n)) now_open

  now_used : is_unreferenced V n ≡ false
  now_used = ap (λ (o : Option Cache). option_map_or (goes V n) o false) it.1 ∙ stays

  -- of another cache the same goes
  goes_other : (q : ℕ) (d : Cache) → cache_of m q ≡ Some d → q ≢ n → goes V q d ≡ goes W q d
  goes_other q d e apart = by d.segment (ap (option_and_then (λ (c : Cache). c.segment)) e)
    where
      by : (s : Option ℕ) → segment_of m q ≡ s → option_map_or (λ s. not (nat_lt 0 (openings_in now s) || is_mapped m q)) s false ≡ option_map_or (λ s. not (nat_lt 0 (openings_in cs s) || is_mapped m q)) s false
      by None f = refl
      by (Some s) f =
          let other : s ≢ seg.0 = λ same. apart (t.apart q n seg.0 (f ∙ ap (λ (x : ℕ). Some x) same) of) in
          ap (λ (k : ℕ). not (nat_lt 0 k || is_mapped m q)) (openings_are s ∙ ap (λ (b : Bool). cond b (openings_in cs seg.0 + 1) (openings_in cs s)) (ne_eqb s seg.0 other))

  others : (q : ℕ) → q ≢ n → is_unreferenced V q ≡ is_unreferenced W q
  others q apart = by (cache_of m q) refl
    where
      by : (o : Option Cache) → cache_of m q ≡ o → option_map_or (goes V q) o false ≡ option_map_or (goes W q) o false
      by None e = refl
      by (Some d) e = goes_other q d e apart

  -- What is noted is tied.
  pub tied_again : AreTied m told now (others_kept n ks) room rs
  tied_again = record {
    caches = noted;
    regions = t.regions;
    apart = t.apart;
    kept = λ q. elim (cases_eq q n) [
      | inl e ↦ ap (is_kept (others_kept n ks)) e ∙ kept_gone n ks ∙ sym now_used ∙ ap (is_unreferenced V) (sym e)
      | inr apart ↦ kept_other n q ks apart ∙ t.kept q ∙ sym (others q apart)
    ];
    named = still_all (λ (k : Kept). segment_of m k.cache.0 ≡ Some k.seg.0) (λ k. not (is_of n k)) ks t.named;
    once = once_filter (λ k. not (is_of n k)) ks t.once;
    fits = omega (arith, t.fits, ap length is, length-set cs place (record named { openings = named.openings + 1 }));
    backed = t.backed;
  }

  cache_at : (j : ℕ) (d : Cache) → slice_get m.caches j ≡ Some (Some d) → cache_of m (1 + j) ≡ Some d
  cache_at j d e = at_some m.caches (1 + j) (omega arith) ∙ ap (option_and_then (λ (x : Option Cache). x)) (ap (slice_get m.caches) (let k : 1 + j - 1 ≡ j = omega arith in k) ∙ e)

  pub alike_but : GoAlikeBut W V 1 m.caches (n - 1)
  alike_but j d e apart = goes_other (1 + j) d (cache_at j d e) (λ s. apart (omega (arith, s)))

  only : (j : ℕ) (d : Cache) → slice_get m.caches j ≡ Some (Some d) → is_named_by seg.0 (Some d) ≡ true → j ≡ n - 1
  only j d e named = apart_by m t.apart j (n - 1) seg.0 d c e at.1 named mine

  pub stays_there : goes V (1 + (n - 1)) c ≡ false
  stays_there = ap (λ (k : ℕ). goes V k c) number ∙ stays

  -- Something referred to it already.
  module _ (referred : is_unreferenced W n ≡ false) where
    stayed : goes W n c ≡ false
    stayed = sym (ap (λ (o : Option Cache). option_map_or (goes W n) o false) it.1) ∙ referred

    pub alike : GoAlike W V 1 m.caches
    alike j d e = elim (cases_eq j (n - 1)) [
      | inr apart ↦ alike_but j d e apart
      | inl s ↦
          let both : Some (Some d) ≡ Some (Some c) = sym e ∙ ap (slice_get m.caches) s ∙ at.1 in
          let same : d ≡ c = cc both in
          let here : 1 + j ≡ n = omega (arith, s, at.0) in
          (λ i. goes V (here i) (same i)) ∙ stays ∙ sym stayed ∙ (λ i. goes W (sym here i) (sym same i))
    ]

    -- it has this number among those that are seen
    pub number_seen : number_in 1 (used W 1 m.caches) seg.0 ≡ Some n
    number_seen =
        number_found seg.0 1 (used W 1 m.caches) (n - 1) c
        (get_used W 1 m.caches (n - 1) ∙ ap (option_map (used_at W (1 + (n - 1)))) at.1 ∙ ap (λ (b : Bool). Some (cond b None (Some c))) (ap (λ (k : ℕ). goes W k c) number ∙ stayed))
        mine (λ j d e f. only j d (used_entry W m.caches j d e) f)
        ∙ ap (λ (k : ℕ). Some k) number

  -- Nothing did: it was kept.
  module _ (free : is_unreferenced W n ≡ true) where
    went : goes W n c ≡ true
    went = sym (ap (λ (o : Option Cache). option_map_or (goes W n) o false) it.1) ∙ free

    went_there : goes W (1 + (n - 1)) c ≡ true
    went_there = ap (λ (k : ℕ). goes W k c) number ∙ went

    pub number_hidden : number_in 1 (used W 1 m.caches) seg.0 ≡ None
    number_hidden = number_none seg.0 1 (used W 1 m.caches) (λ j d e f.
        let same : j ≡ n - 1 = only j d (used_entry W m.caches j d e) f in
        let here : Some (cond (goes W (1 + (n - 1)) c) None (Some c)) ≡ Some (Some d) =
        sym (get_used W 1 m.caches (n - 1) ∙ ap (option_map (used_at W (1 + (n - 1)))) at.1) ∙ ap (slice_get (used W 1 m.caches)) (sym same) ∙ e in
        let gone : Some None ≡ Some (Some d) = sym (ap (λ (b : Bool). Some (cond b None (Some c))) went_there) ∙ here in
        let wrong : None ≡ Some d = cc gone in absurd (cc wrong))

    pub nothing_there : cache_of (let_go W).memory n ≡ None
    nothing_there = numbered_used W m.caches n ∙ ap (used_at W n) it.1 ∙ ap (λ (b : Bool). cond b None (Some c)) went

    pub stored_there : stored_from W 1 m.caches seg.0 ≡ Some c.pages
    stored_there = stored_one W seg.0 1 m.caches (n - 1) c at.1 mine only ∙ ap (λ (b : Bool). cond b (Some c.pages) (W.stored seg.0)) went_there
