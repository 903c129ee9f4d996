-- A temporary cache is made: what that call of the manager of segments comes to.
use Rattle.std.proofs.Common.{◌≡◌, ◌≢◌, inl, inr, ℕ, ◌-◌, ◌<◌, Bool, true, false, cond, List, [], ◌∷◌, ◌++◌, length, map, replicate, Option, Some, None, refl, sym, ap, subst, ◌∙◌, arith}
use Rattle.std.specs.Prelude.{IfNone, IfSome, is_some, nat_le, option_and_then, option_map, slice_set}
use Rattle.std.specs.FinMap.{get}
use Rattle.std.specs.Option.{option_map_or}
use Rattle.std.proofs.lemmas.Bool.{cases_eq}
use Rattle.std.proofs.lemmas.Bool.Decides.{nat_tests}
use Rattle.std.proofs.lemmas.List.{append-nil}
use Rattle.vm_model.proofs.Parts.ListParts.{numbered_past, numbered_push, numbered_pushed}
use Rattle.vm_model.proofs.Parts.Pairs.{each_by}
use Rattle.interface_callers.proofs.Words.{AreBacked, Cache, Machine, Page, Segments, blank, blank_cache, cache_named, cache_of, is_named_by, seen_at, segment_of}
use Rattle.seg_manager.specs.ReferenceMachine.{ReferenceMachine, add_cache, goes, stored_from, used, with_cache}
use Rattle.seg_manager.specs.Seen.{is_kept, openings_in, references_seen, whole_of}
use Rattle.seg_manager.specs.Stepping.{State, blank_references}
use Rattle.seg_manager.specs.Tying.{AreTied, is_unreferenced, namings}
use Rattle.seg_manager.specs.declared.tables.Kept.{Kept}
use Rattle.seg_manager.specs.declared.tables.Mapped.{Mapped}
use Rattle.seg_manager.specs.declared.tables.Named.{Named}
use Rattle.seg_manager.proofs.Opens.FirstSeen.{namings_push}
use Rattle.seg_manager.proofs.Lookup.Entries.{fun_same}
use Rattle.seg_manager.proofs.Seeing.WhichGo.{Caches, length_used, push_used, stored_push, used_same}
use Rattle.seg_manager.proofs.Seeing.Naming.{has_named}
use Rattle.seg_manager.proofs.Opens.Outcome.{appended, number_next}
use Rattle.seg_manager.proofs.Calling.Pushed.{Follow, Told}
use Rattle.seg_manager.proofs.Seeing.Steps.{AreSeen, blank_used, seen_blank}

-- a cache of these pages that no segment names
abbrev pub nameless : List Page → Cache
nameless pages = record { segment = None; pages = pages }

-- behind the others it is named by no segment
named_push : (x : ℕ) (cs : Caches) (pages : List Page) → has_named x (cs ++ Some (nameless pages) ∷ []) ≡ has_named x cs
named_push x [] pages = refl
named_push x (o ∷ cs) pages = by o (is_named_by x o) (named_push x cs pages)
  where
    by : (o : Option Cache) (c : Bool) → has_named x (cs ++ Some (nameless pages) ∷ []) ≡ has_named x cs
        → is_some (cond c o (cache_named (cs ++ Some (nameless pages) ∷ []) x)) ≡ is_some (cond c o (cache_named cs x))
    by o true e = refl
    by o false e = e

module _ (m : Machine) (pages : List Page) where
  abbrev c : Cache
  c = nameless pages

  abbrev pub n : Machine
  n = appended m c

  module _ (told now : Option Segments) (cs : List Named) (ks : List Kept) (room : ℕ) (rs : List Mapped) (t : AreTied m told cs ks room rs) where
    abbrev W : ReferenceMachine
    W = whole_of m told cs

    abbrev V : ReferenceMachine
    V = whole_of n now cs

    last : (q : ℕ) → q ≡ number_next m → cache_of n q ≡ Some c
    last q e = numbered_pushed m.caches (Some c) q e

    same : (q : ℕ) → q ≢ number_next m → cache_of n q ≡ cache_of m q
    same q apart = numbered_push m.caches (Some c) q apart

    nothing : (q : ℕ) → q ≡ number_next m → cache_of m q ≡ None
    nothing q e = numbered_past m.caches q e

    -- the same segments name the same caches
    segment_same : (q : ℕ) → segment_of n q ≡ segment_of m q
    segment_same q = elim (cases_eq q (number_next m)) [
      | inl is ↦ ap (option_and_then (λ (c : Cache). c.segment)) (last q is) ∙ sym (ap (option_and_then (λ (c : Cache). c.segment)) (nothing q is))
      | inr apart ↦ ap (option_and_then (λ (c : Cache). c.segment)) (same q apart)
    ]

    kept_then : (q : ℕ) → is_kept ks q ≡ is_unreferenced V q
    kept_then q = t.kept q ∙ elim (cases_eq q (number_next m)) [
      | inl is ↦ ap (λ (o : Option Cache). option_map_or (goes W q) o false) (nothing q is) ∙ sym (ap (λ (o : Option Cache). option_map_or (goes V q) o false) (last q is))
      | inr apart ↦ ap (λ (o : Option Cache). option_map_or (goes W q) o false) (sym (same q apart))
    ]

    pub tied_temp : IfSome now (λ h. AreBacked n.caches h) → AreTied n now cs ks room rs
    tied_temp backed = record {
      caches = t.caches ∙ sym (namings_push 1 m.caches c ∙ append-nil (namings 1 m.caches));
      regions = t.regions;
      apart = λ i j seg e f. t.apart i j seg (sym (segment_same i) ∙ e) (sym (segment_same j) ∙ f);
      kept = kept_then;
      named = each_by (λ (k : Kept). segment_of m k.cache.0 ≡ Some k.seg.0) (λ (k : Kept). segment_of n k.cache.0 ≡ Some k.seg.0) (λ k e. segment_same k.cache.0 ∙ e) ks t.named;
      once = t.once;
      fits = t.fits;
      backed = backed;
    }

    pub caches_temp : used V 1 n.caches ≡ with_cache (used W 1 m.caches) (number_next m) c
    caches_temp =
        push_used V 1 m.caches (Some c)
        ∙ ap (λ (xs : Caches). xs ++ Some c ∷ []) (used_same W V refl refl 1 m.caches)
        ∙ ap (λ (k : ℕ). used W 1 m.caches ++ (replicate k None ++ Some c ∷ [])) (let e : 0 ≡ number_next m - 1 - length (used W 1 m.caches) = omega (arith, length_used W 1 m.caches) in e)
        ∙ sym (ap (λ (b : Bool). cond b (slice_set (used W 1 m.caches) (number_next m - 1) (Some c)) (used W 1 m.caches ++ (replicate (number_next m - 1 - length (used W 1 m.caches)) None ++ Some c ∷ []))) past)
      where
        past : nat_le (number_next m) (length (used W 1 m.caches)) ≡ false
        past = let h : length (used W 1 m.caches) < number_next m = omega (arith, length_used W 1 m.caches) in grind (arith, nat_tests)

  -- What is seen, where it is told and where it isn't
  seen_told : (s u : Segments) (cs : List Named) (ks : List Kept) (room : ℕ) (rs : List Mapped) (t : AreTied m (Some s) cs ks room rs) → Follow m s u → references_seen n (Some u) cs ≡ add_cache (references_seen m (Some s) cs) (number_next m) c
  seen_told s u cs ks room rs t f = λ i. record {
    memory = record m { caches = caches_temp (Some s) (Some u) cs ks room rs t i };
    stored = stored_same i;
    openings = openings_in cs;
  }
    where
      beside : (x : ℕ) → (whole_of n (Some u) cs).stored x ≡ (whole_of m (Some s) cs).stored x
      beside x = by (has_named x m.caches) refl
        where
          by : (b : Bool) → has_named x m.caches ≡ b → cond (has_named x n.caches) None (get u.pages x) ≡ cond (has_named x m.caches) None (get s.pages x)
          by true e = ap (λ (b : Bool). cond b None (get u.pages x)) (named_push x m.caches pages ∙ e) ∙ sym (ap (λ (b : Bool). cond b None (get s.pages x)) e)
          by false e = ap (λ (b : Bool). cond b None (get u.pages x)) (named_push x m.caches pages ∙ e) ∙ f.beside x e ∙ sym (ap (λ (b : Bool). cond b None (get s.pages x)) e)

      stored_same : stored_from (whole_of n (Some u) cs) 1 n.caches ≡ stored_from (whole_of m (Some s) cs) 1 m.caches
      stored_same = fun_same (stored_from (whole_of n (Some u) cs) 1 n.caches) (stored_from (whole_of m (Some s) cs) 1 m.caches) (λ x. stored_push (whole_of m (Some s) cs) (whole_of n (Some u) cs) refl refl x (beside x) 1 m.caches (Some c) refl)

  seen_untold : (cs : List Named) (ks : List Kept) (room : ℕ) (rs : List Mapped) (t : AreTied m None cs ks room rs) → references_seen (blank n) None cs ≡ blank_references (add_cache (references_seen m None cs) (number_next m) c)
  seen_untold cs ks room rs t = λ i. record {
    memory = record m {
      caches = (used_same (whole_of n None cs) (whole_of (blank n) None cs) refl refl 1 (blank n).caches ∙ sym (blank_used (whole_of n None cs) 1 n.caches)
          ∙ ap (map (option_map blank_cache)) (caches_temp None None cs ks room rs t)) i;
    };
    stored = λ x. None;
    openings = openings_in cs;
  }

  pub seen_temp : (told now : Option Segments) (later : Machine) (cs : List Named) (ks : List Kept) (room : ℕ) (rs : List Mapped) (t : AreTied m told cs ks room rs) → Told m told now → later ≡ seen_at now n → IfNone told (m ≡ blank m)
      → (before after : State) → before.references ≡ references_seen m told cs → after.references ≡ references_seen later now cs
      → AreSeen now before after (references_seen m told cs) (add_cache (references_seen m told cs) (number_next m) c)
  seen_temp None None later cs ks room rs t f is bare before after x y = (x ∙ seen_blank m cs bare, y ∙ ap (λ (z : Machine). references_seen z None cs) is ∙ seen_untold cs ks room rs t)
  seen_temp None (Some u) later cs ks room rs t f is bare before after x y = absurd (let wrong : Some u ≡ None = f.none refl in cc wrong)
  seen_temp (Some s) None later cs ks room rs t f is bare before after x y = absurd (let u = f.some s refl in cc u.1)
  seen_temp (Some s) (Some u) later cs ks room rs t f is bare before after x y =
      let v = f.some s refl in
      let same : v.0 ≡ u = (let e : Some u ≡ Some v.0 = v.1 in let is : u ≡ v.0 = cc e in sym is) in
      (x, y ∙ ap (λ (z : Machine). references_seen z (Some u) cs) is ∙ seen_told s u cs ks room rs t (subst (λ (z : Segments). Follow m s z) same v.2))
