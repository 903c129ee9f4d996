-- Loads and stores, and the pages that they find.
use Rattle.std.proofs.Common.{◌≡◌, ℕ, ◌+◌, ◌-◌, ◌<◌, ◌≤◌, Bool, true, false, List, [], length, drop, map, set, take, Option, Some, None, refl, sym, ap, subst, ◌∙◌, arith, inl, inr}
use Rattle.std.specs.Prelude.{◌||◌, IfErr, IfOk, IfSome, IsSome, Ok, Err, Result, not, option_and_then, option_map, slice_get, unwrap_or}
use Rattle.std.specs.List.{list_any, range_with_len}
use Rattle.std.specs.Option.{option_map_or}
use Rattle.std.proofs.lemmas.Bool.{cases_eq}
use Rattle.std.proofs.lemmas.List.{length-map, length-set, map-set}
use Rattle.std.proofs.lemmas.Option.{slice_get-get_or, slice_get-map, slice_get_within}
use Rattle.vm_ids.specs.Denying.{denies}
use Rattle.vm_ids.specs.Held.{Held, Segments, segments_in}
use Rattle.vm_ids.specs.declared.numbers.SegId.{SegId}
use Rattle.vm_ids.specs.declared.refusal.Refusal.{Refusal}
use Rattle.vm_ids.specs.declared.refusal.Refusal.TheVariants as refusals
use Rattle.vm_ids.specs.declared.reply.Reply.TheVariants as replies
use Rattle.vm_model.specs.Answering.{is_denied_page, load_of, overwrite, page_at, put_cache, put_page, refuse, reply, store_of, unless, with_ok, write_at}
use Rattle.vm_model.specs.Machine as model
use Rattle.vm_model.specs.Machine.{Machine, cache_of, numbered, pages_in, segment_of}
use Rattle.vm_model.specs.Place.{Place, place, place_of_actor}
use Rattle.vm_model.proofs.Parts.Lists.{get_set_other, get_set_same, numbered-map, numbered_place}
use Rattle.vm_model.proofs.Parts.ListParts.{numbered_set, numbered_set_other}
use Rattle.regions.specs.AddressSpace.{place_told}
use Rattle.regions.specs.declared.region.Place as regions
use Rattle.contexts.specs.Actors.{Actors, machine_with}
use Rattle.contexts.specs.Placed.{AreRight}
use Rattle.contexts.proofs.Placing.{refused_at, right_weaker, spot}
use Rattle.gmi_calls.proofs.Accessing.{segments_for}
use Rattle.flat_mm.specs.Accessing.{IsPlacedAt}
use Rattle.flat_mm.specs.Manager.{AreKept, IsKept, IsManagerSound, caches_in, plain, sizes_in}
use Rattle.flat_mm.specs.Store as store
use Rattle.flat_mm.specs.Store.{AreWhole, Cache, Page, Store, with_cache, with_page}

-- A page of the store, as the machine has it

-- a page of a live cache, with its cache
pub record IsPageAt (caches : List (Option Cache)) (n k : ℕ) (p : Page) : Type 0 where
  pub cache : Cache
  pub alive : numbered caches n ≡ Some cache
  pub at : slice_get cache.pages k ≡ Some p

pub page_there : (caches : List (Option Cache)) (n k : ℕ) → IsSome (store.page_at caches n k) → (p : Page) × IsPageAt caches n k p
page_there caches n k = go (numbered caches n) refl
  where
    go : (o : Option Cache) → numbered caches n ≡ o → IsSome (option_and_then (λ (c : Cache). slice_get c.pages k) o) → (p : Page) × IsPageAt caches n k p
    go None alive h = absurd (cc h)
    go (Some c) alive h = page (slice_get c.pages k) refl h
      where
        page : (o : Option Page) → slice_get c.pages k ≡ o → IsSome o → (p : Page) × IsPageAt caches n k p
        page None at h = absurd (cc h)
        page (Some p) at h = (p, record { cache = c; alive = alive; at = at })

module _ (s : Store) (n k : ℕ) (p : Page) (P : IsPageAt s.caches n k p) where
  pub page_is : store.page_at s.caches n k ≡ Some p
  page_is = ap (option_and_then (λ (c : Cache). slice_get c.pages k)) P.alive ∙ P.at

  pub cache_plain : numbered (caches_in s) n ≡ Some (plain P.cache)
  cache_plain = numbered-map plain s.caches n ∙ ap (option_map plain) P.alive

  pub page_plain : slice_get (plain P.cache).pages k ≡ Some p.bytes
  page_plain = slice_get-map (λ (p : Page). p.bytes) P.cache.pages k ∙ ap (option_map (λ (p : Page). p.bytes)) P.at

  -- the machine's page at a place
  pub page_seen : (m : Machine) (at : Place) → m.caches ≡ caches_in s → at.region.cache ≡ n → at.page ≡ k → page_at m at ≡ p.bytes
  page_seen m at caches here page =
      ap (λ (o : Option model.Cache). option_map_or (λ (c : model.Cache). unwrap_or (slice_get c.pages at.page) []) o [])
      ((λ i. numbered (caches i) (here i)) ∙ cache_plain)
      ∙ ap (λ j. unwrap_or (slice_get (plain P.cache).pages j) []) page ∙ ap (λ (o : Option (List ℕ)). unwrap_or o []) page_plain

  -- it is written over
  pub put_plain : (q : Page) → caches_in (with_page n k q s) ≡ set (caches_in s) (n - 1) (Some (put_page k q.bytes (plain P.cache)))
  put_plain q =
      ap (map (option_map plain)) (ap (λ (o : Option Cache). set s.caches (n - 1) (option_map (store.put_page k q) o)) P.alive)
      ∙ map-set (option_map plain) s.caches (n - 1) (Some (store.put_page k q P.cache))
      ∙ ap (λ (ps : List model.Page). set (caches_in s) (n - 1) (Some (let c : model.Cache = record { segment = option_map (λ (s : SegId). s.0) P.cache.segment; pages = ps } in c))) (map-set (λ (p : Page). p.bytes) P.cache.pages k q)

  -- caches have as many pages
  pub sizes_put : (q : Page) (m count : ℕ) → sizes_in s m ≡ Some count → sizes_in (with_page n k q s) m ≡ Some count
  sizes_put q m count e = elim (cases_eq m n) [
    | inl same ↦ (
        let put : numbered (with_page n k q s).caches n ≡ Some (store.put_page k q P.cache) = ap (λ (o : Option Cache). numbered (set s.caches (n - 1) (option_map (store.put_page k q) o)) n) P.alive ∙ numbered_set s.caches n P.cache (Some (store.put_page k q P.cache)) P.alive in
        ap (sizes_in (with_page n k q s)) same ∙ ap (option_map (λ (c : Cache). length c.pages)) put ∙ ap (λ j. Some j) (length-set P.cache.pages k q)
        ∙ sym (ap (option_map (λ (c : Cache). length c.pages)) P.alive) ∙ ap (sizes_in s) (sym same) ∙ e)
    | inr other ↦ ap (option_map (λ (c : Cache). length c.pages)) (numbered_set_other s.caches n m (option_map (store.put_page k q) (numbered s.caches n)) (numbered_place s.caches n P.cache P.alive).0 other) ∙ e
  ]

  -- pages are kept where this one is
  pub kept_put : (h : Segments) (q : Page) → AreKept h s.caches → ((seg : SegId) → P.cache.segment ≡ Some seg → IsKept h seg.0 k q) → AreKept h (with_page n k q s).caches
  kept_put h q kept new = λ m page c seg x there named at. elim (cases_eq m n) [
    | inl same ↦ (
        let put : numbered (with_page n k q s).caches n ≡ Some (store.put_page k q P.cache) = ap (λ (o : Option Cache). numbered (set s.caches (n - 1) (option_map (store.put_page k q) o)) n) P.alive ∙ numbered_set s.caches n P.cache (Some (store.put_page k q P.cache)) P.alive in
        let e : Some (store.put_page k q P.cache) ≡ Some c = sym put ∙ ap (numbered (with_page n k q s).caches) (sym same) ∙ there in
        let is : store.put_page k q P.cache ≡ c = cc e in
        let seg_is : P.cache.segment ≡ Some seg = ap (λ (x : Cache). x.segment) is ∙ named in
        let set_at : slice_get (set P.cache.pages k q) page ≡ Some x = ap (λ (x : Cache). slice_get x.pages page) is ∙ at in
        elim (cases_eq page k) [
          | inl here ↦ (
              let got : Some q ≡ Some x = sym (get_set_same P.cache.pages k q (slice_get_within P.cache.pages k p P.at)) ∙ ap (slice_get (set P.cache.pages k q)) (sym here) ∙ set_at in
              let x_is : q ≡ x = cc got in
              subst (λ (y : Page). IsKept h seg.0 page y) x_is (subst (λ j. IsKept h seg.0 j q) (sym here) (new seg seg_is)))
          | inr apart ↦ kept n page P.cache seg x P.alive seg_is (sym (get_set_other P.cache.pages k page q apart) ∙ set_at)
        ])
    | inr other ↦ kept m page c seg x (sym (numbered_set_other s.caches n m (option_map (store.put_page k q) (numbered s.caches n)) (numbered_place s.caches n P.cache P.alive).0 other) ∙ there) named at
  ]

-- The segment that names a cache

pub segment_plain : (s : Store) (t : model.Machine) (n : ℕ) → t.caches ≡ caches_in s → segment_of t n ≡ option_map (λ (s : SegId). s.0) (option_and_then (λ (c : Cache). c.segment) (numbered s.caches n))
segment_plain s t n caches = ap (option_and_then (λ (c : model.Cache). c.segment)) (ap (λ (cs : List (Option model.Cache)). numbered cs n) caches ∙ numbered-map plain s.caches n) ∙ go (numbered s.caches n)
  where
    go : (o : Option Cache) → option_and_then (λ (c : model.Cache). c.segment) (option_map plain o) ≡ option_map (λ (s : SegId). s.0) (option_and_then (λ (c : Cache). c.segment) o)
    go None = refl
    go (Some c) = refl

-- The rows

pub load_refused : (m : Machine) (actor address n : ℕ) (r : Refusal) → place m actor address n ≡ Err r → load_of m actor address n ≡ refuse m r
unfolding load_of with_ok
load_refused m actor address n r e = rw e refl

pub load_row : (m : Machine) (actor address n : ℕ) (at : Place) → place m actor address n ≡ Ok at → load_of m actor address n ≡ reply (replies.Bytes (take n (drop at.byte (page_at m at)))) m
unfolding load_of with_ok
load_row m actor address n at e = rw e refl

pub store_refused : (m : Machine) (actor address : ℕ) (bytes : List ℕ) (h : Segments) (r : Refusal) → place m actor address (length bytes) ≡ Err r → store_of m actor address bytes h ≡ refuse m r
unfolding store_of with_ok
store_refused m actor address bytes h r e = rw e refl

pub store_protected : (m : Machine) (actor address : ℕ) (bytes : List ℕ) (h : Segments) (at : Place) → place m actor address (length bytes) ≡ Ok at → at.region.may_write ≡ false → store_of m actor address bytes h ≡ refuse m refusals.Protection
unfolding store_of with_ok unless
store_protected m actor address bytes h at e free = rw (e, free) refl

-- a range of one page
pub one_denied : (f : ℕ → Bool) (page : ℕ) (b : Bool) → list_any f (range_with_len page 1) ≡ b → f page ≡ b
one_denied f page b e = or_false (f page) ∙ e
  where
    or_false : (x : Bool) → x ≡ (x || false)
    or_false true = refl
    or_false false = refl

-- Places

pub refused_of : (x : Result Place Refusal) (r : Result regions.Place Refusal) → r ≡ place_told x → IfErr r (λ e. x ≡ Err e)
refused_of x (Ok p) e = tt
refused_of x (Err r) e = sym (refused_at x r e)

sized_page : (s : Store) (n k count : ℕ) → sizes_in s n ≡ Some count → k < count → IsSome (store.page_at s.caches n k)
sized_page s n k count e less = go (numbered s.caches n) e
  where
    go : (o : Option Cache) → option_map (λ (c : Cache). length c.pages) o ≡ Some count → IsSome (option_and_then (λ (c : Cache). slice_get c.pages k) o)
    go None e = absurd (cc e)
    go (Some c) e =
        let many : length c.pages ≡ count = cc e in
        subst IsSome (sym (slice_get-get_or c.pages k (record { bytes = []; changed = false }) (omega (arith, many, less)))) refl

pub found_of : (s : Store) (t : Actors) (n : ℕ) → IsManagerSound s t n → (actor address bytes : ℕ) (r : Result regions.Place Refusal) → r ≡ place_told (place_of_actor t.page_bytes (numbered t.actors actor) address bytes)
    → IfOk r (λ p. IsPlacedAt (record { store = s; actors = t }) actor address bytes p)
found_of s t n k actor address bytes (Err e) is = tt
found_of s t n k actor address bytes (Ok p) is =
    let F = spot (sizes_in s) t actor address bytes p k.placed is in
    record { region = F.region; is = sym F.is; there = sized_page s p.cache.0 p.page.0 F.count F.there F.less; within = omega (arith, F.fits, k.page) }

-- A page that is written

pub sound_put : (s : Store) (t : Actors) (m : ℕ) → IsManagerSound s t m → (n k : ℕ) (p q : Page) → IsPageAt s.caches n k p → (u : Store) → u ≡ with_page n k q s → AreWhole u → IsManagerSound u t m
sound_put s t m S n k p q P u is whole = record {
  whole = whole;
  settled = ap (λ (x : Store). x.loose) is ∙ S.settled;
  page = S.page ∙ sym (ap (λ (x : Store). x.page_bytes) is);
  made = omega (arith, S.made, ap (λ (x : Store). length x.caches) is, length-set s.caches (n - 1) (option_map (store.put_page k q) (numbered s.caches n)));
  counted = S.counted;
  placed = subst (λ (x : Store). AreRight (sizes_in x) t) (sym is) (right_weaker (sizes_in s) (sizes_in (with_page n k q s)) t (sizes_put s n k p P q) S.placed);
}

kept_denied : (h : Segments) (s : Store) (n k : ℕ) (p : Page) (P : IsPageAt s.caches n k p) (m : Machine) → m.caches ≡ caches_in s → is_denied_page m h n k ≡ false → (seg : SegId) → P.cache.segment ≡ Some seg → denies h.denied seg.0 k ≡ false
kept_denied h s n k p P m caches free seg named =
    let here : segment_of m n ≡ Some seg.0 = segment_plain s m n caches ∙ ap (λ (o : Option Cache). option_map (λ (s : SegId). s.0) (option_and_then (λ (c : Cache). c.segment) o)) P.alive ∙ ap (option_map (λ (s : SegId). s.0)) named in
    sym (ap (λ (o : Option ℕ). option_map_or (λ seg. denies h.denied seg k) o false) here) ∙ free

pub kept_written : (told : Option Held) (s : Store) (n k : ℕ) (p q : Page) (P : IsPageAt s.caches n k p) (m : Machine) → m.caches ≡ caches_in s → q.changed ≡ true → is_denied_page m (segments_for told) n k ≡ false → IfSome told (λ h. AreKept (segments_in h) s.caches)
    → IfSome told (λ h. AreKept (segments_in h) (with_page n k q s).caches)
kept_written None s n k p q P m caches changed free kept = tt
kept_written (Some h) s n k p q P m caches changed free kept =
    kept_put s n k p P (segments_in h) q kept (λ seg named. record { granted = λ _. kept_denied (segments_in h) s n k p P m caches free seg named; same = λ e. absurd (let no : true ≡ false = sym changed ∙ e in cc no) })

-- the machine then
pub written_machine : (s : Store) (t : Actors) (n k : ℕ) (p q : Page) (P : IsPageAt s.caches n k p) (at : Place) (bytes : List ℕ) → at.region.cache ≡ n → at.page ≡ k → q.bytes ≡ overwrite at.byte bytes p.bytes
    → machine_with (caches_in (with_page n k q s)) s.frames t ≡ write_at (machine_with (caches_in s) s.frames t) at bytes
written_machine s t n k p q P at bytes here page is =
    let m = machine_with (caches_in s) s.frames t in
    let seen = page_seen s n k p P m at refl here page in
    ap (λ (cs : List (Option model.Cache)). machine_with cs s.frames t)
    (put_plain s n k p P q ∙ (λ i. set (caches_in s) (sym here i - 1) (Some (put_page (sym page i) ((is ∙ ap (overwrite at.byte bytes) (sym seen)) i) (plain P.cache)))))
    ∙ sym (ap (λ (o : Option model.Cache). option_map_or (λ c. put_cache m at.region.cache (put_page at.page (overwrite at.byte bytes (page_at m at)) c)) o m) (ap (λ j. numbered (caches_in s) j) here ∙ cache_plain s n k p P))

-- A page below the size of its cache

pub page_some : (s : Store) (n k : ℕ) → k < pages_in (numbered (caches_in s) n) → IsSome (store.page_at s.caches n k)
page_some s n k less = go (numbered s.caches n) (subst (λ (o : Option model.Cache). k < pages_in o) (numbered-map plain s.caches n) less)
  where
    go : (o : Option Cache) → k < pages_in (option_map plain o) → IsSome (option_and_then (λ (c : Cache). slice_get c.pages k) o)
    go None less = absurd (omega (arith, less))
    go (Some c) less = subst IsSome (sym (slice_get-get_or c.pages k (record { bytes = []; changed = false }) (omega (arith, less, length-map c.pages (λ (p : Page). p.bytes))))) refl

-- a page that was changed may be written
pub changed_free : (told : Option Held) (s : Store) (n k : ℕ) (p : Page) (P : IsPageAt s.caches n k p) (m : Machine) (seg : SegId) → m.caches ≡ caches_in s → segment_of m n ≡ Some seg.0 → option_map (λ (q : Page). q.changed) (store.page_at s.caches n k) ≡ Some true
    → IfSome told (λ h. AreKept (segments_in h) s.caches) → IfSome told (λ h. true ≡ not (is_denied_page m (segments_in h) n k))
changed_free None s n k p P m seg caches named changed kept = tt
changed_free (Some h) s n k p P m seg caches named changed kept =
    let c : Some p.changed ≡ Some true = ap (option_map (λ (q : Page). q.changed)) (sym (page_is s n k p P)) ∙ changed in
    let is : p.changed ≡ true = cc c in
    let x : option_map (λ (s : SegId). s.0) P.cache.segment ≡ Some seg.0 = sym (segment_plain s m n caches ∙ ap (λ (o : Option Cache). option_map (λ (s : SegId). s.0) (option_and_then (λ (c : Cache). c.segment) o)) P.alive) ∙ named in
    let free : denies h.denied seg.0 k ≡ false = granted P.cache.segment refl x is in
    ap not (sym (ap (λ (o : Option ℕ). option_map_or (λ seg. denies h.denied seg k) o false) named ∙ free))
  where
    granted : (o : Option SegId) → P.cache.segment ≡ o → option_map (λ (s : SegId). s.0) o ≡ Some seg.0 → p.changed ≡ true → denies h.denied seg.0 k ≡ false
    granted None e x is = absurd (cc x)
    granted (Some t) e x is =
        let same : t.0 ≡ seg.0 = cc x in
        subst (λ j. denies h.denied j k ≡ false) same ((kept n k P.cache t p P.alive e P.at).granted is)

pub page_within : (s : Store) (n k : ℕ) → IsSome (store.page_at s.caches n k) → k + 1 ≤ pages_in (numbered (caches_in s) n)
page_within s n k some =
    let P = page_there s.caches n k some in
    subst (λ (o : Option model.Cache). k + 1 ≤ pages_in o) (sym (cache_plain s n k P.0 P.1)) (omega (arith, slice_get_within P.1.cache.pages k P.0 P.1.at, length-map P.1.cache.pages (λ (p : Page). p.bytes)))
