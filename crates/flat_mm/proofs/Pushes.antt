-- A page that was changed is pushed to the segment that names its cache.
use Rattle.std.proofs.Common.{◌≡◌, ◌==◌, ℕ, zero, suc, ◌+◌, ◌-◌, ◌<◌, Bool, true, false, cond, List, [], ◌∷◌, set, Option, Some, None, refl, sym, ap, subst, ◌∙◌, arith, inl, inr}
use Rattle.std.specs.Prelude.{IfSome, OnErr, Result, Ok, Err, not, option_and_then, option_map, slice_get, unwrap_or}
use Rattle.std.specs.FinMap.{get, get-insert}
use Rattle.std.specs.Cmp.{unsigned_tied}
use Rattle.std.proofs.lemmas.Bool.{cases_eq}
use Rattle.std.proofs.lemmas.Bool.Decides.{nat_tests}
use Rattle.std.proofs.lemmas.Cmp.{nat_cmp_total}
use Rattle.vm_ids.specs.Counting.{Counted}
use Rattle.vm_ids.specs.Held.{Held, Segments, put_segment_page, segment_page, segments_in, segments_of, with_page}
use Rattle.vm_ids.specs.declared.numbers.SegId.{SegId}
use Rattle.vm_model.specs.Machine as model
use Rattle.vm_model.specs.Machine.{Machine, cache_of, numbered, pages_in, segment_of}
use Rattle.vm_model.specs.PageForest.{page_in}
use Rattle.vm_model.specs.Synchronised.{ArePushed}
use Rattle.vm_model.proofs.Parts.Lists.{get_set_other, numbered-map, numbered_place}
use Rattle.vm_port.specs.declared.traits.mapper.Mapper.{Ghosts as GhostsOfMapper}
use Rattle.contexts.specs.Actors.{Actors, machine_with}
use Rattle.gmi_calls.specs.Backing.{AreBacked, IsReady}
use Rattle.gmi_calls.specs.Reaching.{Pushed}
use Rattle.gmi_calls.proofs.Pushing.{IsGranted, IsNamedPage, page_is as named_page_is, page_kept, page_pushed, page_ready, page_there as page_there_now, pushed_by, pushed_start, pushed_then, there_one}
use Rattle.gmi_calls.proofs.Rising.{counted}
use Rattle.flat_mm.specs.Extents.{IsPushed}
use Rattle.flat_mm.specs.Manager.{AreKept, IsValid, Manager, caches_in, machine_in, plain}
use Rattle.flat_mm.specs.Store as store
use Rattle.flat_mm.specs.Store.{AreWhole, Cache, Page, Store}
use Rattle.flat_mm.proofs.Accesses.{IsPageAt, cache_plain, kept_put, page_is, page_plain, page_some, page_there, put_plain, segment_plain}
use Rattle.flat_mm.proofs.Extents.{segment_number}

-- What a segment holds when one of its pages was pushed

same_number : (n : ℕ) → (n == n) ≡ true
same_number n = grind (arith, nat_tests)

other_number : (m n : ℕ) → (m ≡ n → ⊥) → (m == n) ≡ false
other_number m n h = grind (arith, nat_tests)

page_of_set : (o : Option (List (List ℕ))) (k page : ℕ) (bytes : List ℕ) → (page ≡ k → ⊥) → slice_get (set (unwrap_or o []) k bytes) page ≡ option_and_then (λ (ps : List (List ℕ)). slice_get ps page) o
page_of_set None k page bytes apart = get_set_other [] k page bytes apart
page_of_set (Some ps) k page bytes apart = get_set_other ps k page bytes apart

-- another page is as before
pub other_page : (h : Segments) (seg k x page : ℕ) (bytes : List ℕ) → (x ≡ seg → page ≡ k → ⊥) → segment_page (put_segment_page seg k bytes h) x page ≡ segment_page h x page
other_page h seg k x page bytes apart =
    let now = set (unwrap_or (get h.pages seg) []) k bytes in
    let got = get-insert nat_cmp_total h.pages seg now x in
    let read : Option (List (List ℕ)) → Option (List ℕ) = option_and_then (λ (ps : List (List ℕ)). slice_get ps page) in
    elim (cases_eq x seg) [
      | inl same ↦ (
          let tied = unsigned_tied x seg ∙ ap (λ j. x == j) (sym same) ∙ same_number x in
          ap read (got ∙ ap (λ (b : Bool). cond b (Some now) (get h.pages x)) tied) ∙ page_of_set (get h.pages seg) k page bytes (apart same) ∙ ap (λ j. segment_page h j page) (sym same))
      | inr other ↦ ap read (got ∙ ap (λ (b : Bool). cond b (Some now) (get h.pages x)) (unsigned_tied x seg ∙ other_number x seg other))
    ]

set_there : {A : Type 0} (xs : List A) (i : ℕ) (x : A) → slice_get xs i ≡ Some x → set xs i x ≡ xs
set_there [] i x e = refl
set_there (z ∷ xs) zero x e = (let same : z ≡ x = cc e in ap (λ y. y ∷ xs) (sym same))
set_there (z ∷ xs) (suc i) x e = ap (λ zs. z ∷ zs) (set_there xs i x e)

-- A page of a cache that a segment names

module _ (s : Store) (t : Actors) (n k : ℕ) (p : Page) (P : IsPageAt s.caches n k p) (seg : SegId) where
  abbrev here : Machine
  here = machine_with (caches_in s) s.frames t

  module _ (named : segment_of (machine_with (caches_in s) s.frames t) n ≡ Some seg.0) where
    pub cache_named : P.cache.segment ≡ Some seg
    cache_named =
        segment_number P.cache.segment seg
        (sym (segment_plain s here n refl ∙ ap (λ (o : Option Cache). option_map (λ (x : SegId). x.0) (option_and_then (λ (c : Cache). c.segment) o)) P.alive) ∙ named)

    abbrev pub machine_page : IsNamedPage (machine_with (caches_in s) s.frames t) n seg.0 k
    machine_page = record { cache = plain P.cache; there = cache_plain s n k p P; named = ap (option_map (λ (x : SegId). x.0)) cache_named; page = p.bytes; at = page_plain s n k p P }

    -- the segment holds a page that wasn't changed
    pub unchanged_there : (told : Option Held) → IfSome told (λ h. AreKept (segments_in h) s.caches) → p.changed ≡ false → ArePushed (machine_with (caches_in s) s.frames t) (segments_of told) n k (k + 1)
    unchanged_there None kept same = tt
    unchanged_there (Some h) kept same = λ x page e from below.
        let one : Some seg.0 ≡ Some x = sym named ∙ e in
        let x_is : seg.0 ≡ x = cc one in
        let here_is : page ≡ k = omega (arith, from, below) in
        (λ i. segment_page (segments_in h) (sym x_is i) (here_is i)) ∙ (kept n k P.cache seg p P.alive cache_named P.at).same same
        ∙ sym (named_page_is here n seg.0 k machine_page) ∙ ap (page_in here n) (sym here_is)

    -- and one that was changed may be written
    pub changed_granted : (told : Option Held) → IfSome told (λ h. AreKept (segments_in h) s.caches) → p.changed ≡ true → IsGranted (machine_with (caches_in s) s.frames t) n seg.0 k machine_page true told
    changed_granted None kept is = tt
    changed_granted (Some h) kept is = ap not (sym ((kept n k P.cache seg p P.alive cache_named P.at).granted is))

    -- the pages are kept when it was pushed
    pushed_kept : (h : Held) → AreBacked (caches_in s) (segments_in h) → AreKept (segments_in h) s.caches → p.changed ≡ true → AreKept (segments_in (with_page seg.0 k p.bytes h)) s.caches
    pushed_kept h backed kept is = λ number page c x q alive x_named at.
        let old = kept number page c x q alive x_named at in
        record {
          granted = old.granted;
          same = λ unchanged. other_page (segments_in h) seg.0 k x.0 page p.bytes (λ seg_is here_is.
              let c_plain : numbered (caches_in s) number ≡ Some (plain c) = numbered-map plain s.caches number ∙ ap (option_map plain) alive in
              let one : number ≡ n = backed.apart number n x.0 (plain c) (plain P.cache) c_plain (cache_plain s n k p P) (ap (option_map (λ (y : SegId). y.0)) x_named) (ap (option_map (λ (y : SegId). y.0)) cache_named ∙ ap (λ j. Some j) (sym seg_is)) in
              let c_is : Some c ≡ Some P.cache = sym alive ∙ ap (numbered s.caches) one ∙ P.alive in
              let c_same : c ≡ P.cache = cc c_is in
              let q_is : Some q ≡ Some p = sym at ∙ (λ i. slice_get (c_same i).pages (here_is i)) ∙ P.at in
              let q_same : q ≡ p = cc q_is in
              let no : false ≡ true = sym unchanged ∙ ap (λ (y : Page). y.changed) q_same ∙ is in
              cc no) ∙ old.same unchanged;
        }

    abbrev pub settled : Store
    settled = store.with_page n k (record { bytes = p.bytes; changed = false }) s

    -- and when the manager says so
    pub settled_kept : (told : Option Held) → IsReady (machine_with (caches_in s) s.frames t) told → IfSome told (λ h. AreKept (segments_in h) s.caches) → p.changed ≡ true → IfSome (option_map (with_page seg.0 k p.bytes) told) (λ h. AreKept (segments_in h) settled.caches)
    settled_kept None ready kept is = tt
    settled_kept (Some h) ready kept is =
        kept_put s n k p P (segments_in (with_page seg.0 k p.bytes h)) (record { bytes = p.bytes; changed = false }) (pushed_kept h ready.backed kept is)
        (λ x x_named. record {
          granted = λ e. absurd (let no : false ≡ true = e in cc no);
          same = λ e.
              let one : Some seg ≡ Some x = sym cache_named ∙ x_named in
              let x_is : seg ≡ x = cc one in
              there_one here n seg.0 k machine_page (Some h) ready x.0 k (named ∙ ap (λ (y : SegId). Some y.0) x_is) (omega arith) (omega arith)
              ∙ named_page_is here n seg.0 k machine_page;
        })

    pub settled_machine : caches_in settled ≡ caches_in s
    settled_machine =
        put_plain s n k p P (record { bytes = p.bytes; changed = false })
        ∙ ap (λ (ps : List model.Page). set (caches_in s) (n - 1) (Some (let c : model.Cache = record { segment = (plain P.cache).segment; pages = ps } in c))) (set_there (plain P.cache).pages k p.bytes (page_plain s n k p P))
        ∙ set_there (caches_in s) (n - 1) (Some (plain P.cache)) (numbered_place (caches_in s) n (plain P.cache) (cache_plain s n k p P)).1

-- The page that is pushed

pub page_of : (p q : Manager) → p ≡ q → (n k : ℕ) → k < pages_in (cache_of (machine_in q) n) → (x : Page) × IsPageAt p.store.caches n k x
page_of p q view n k less = page_there p.store.caches n k (page_some p.store n k (subst (λ (x : Manager). k < pages_in (cache_of (machine_in x) n)) (sym view) less))

pub read_is : {A : Type 0} (f : Page → A) (s : Store) (n k : ℕ) (p : Page) (P : IsPageAt s.caches n k p) (x : A) → option_map f (store.page_at s.caches n k) ≡ Some x → f p ≡ x
read_is f s n k p P x e = let one : Some (f p) ≡ Some x = ap (option_map f) (sym (page_is s n k p P)) ∙ e in cc one

module _ {X : Type 0} (M : GhostsOfMapper X) (before after : X) (s : Store) (t : Actors) (n k : ℕ) (p : Page) (P : IsPageAt s.caches n k p) (seg : SegId) (named : segment_of (machine_with (caches_in s) s.frames t) n ≡ Some seg.0)
    (valid : IsValid (record { store = s; actors = t }) (M.held before)) (is : p.changed ≡ true) (page : M.page_bytes after ≡ M.page_bytes before) where
  abbrev old : Manager
  old = record { store = s; actors = t }

  page_granted : IsGranted (machine_with (caches_in s) s.frames t) n seg.0 k (machine_page s t n k p P seg named) true (M.held before)
  page_granted = changed_granted s t n k p P seg named (M.held before) valid.kept is

  pub push_failed : {E : Type 0} (e : E) → M.held after ≡ M.held before → Counted 0 1 (M.counts before) (M.counts after) (let r : Result (Unit {0}) E = Err e in r) → IsPushed M before old after old (let r : Result (Unit {0}) E = Err e in r)
  push_failed {E} e same counts =
      let r : Result (Unit {0}) E = Err e in
      record {
        pushed = page_pushed (machine_in old) n seg.0 k (machine_page s t n k p P seg named) (M.held before) (M.held after) true refl page_granted valid.ready r (M.counts before) (M.counts after) tt same (counted 0 1 (M.counts before) (M.counts after) r counts);
        machine = refl;
        free = refl;
        valid = subst (IsValid old) (sym same) valid;
        page = page;
      }

  module _ (ok : M.held after ≡ option_map (with_page seg.0 k p.bytes) (M.held before)) where
    pub push_done : {E : Type 0} → Counted 0 1 (M.counts before) (M.counts after) (let r : Result (Unit {0}) E = Ok tt in r) → (u : Store) → u ≡ settled s t n k p P seg named → IsPushed M before old after (record { store = u; actors = t }) (let r : Result (Unit {0}) E = Ok tt in r)
    push_done {E} counts u settles =
        let r : Result (Unit {0}) E = Ok tt in
        let m = machine_in old in
        let N = machine_page s t n k p P seg named in
        let still : machine_with (caches_in u) u.frames t ≡ m = (λ i. machine_with (caches_in (settles i)) (settles i).frames t) ∙ ap (λ (cs : List (Option model.Cache)). machine_with cs s.frames t) (settled_machine s t n k p P seg named) in
        record {
          pushed = page_pushed m n seg.0 k N (M.held before) (M.held after) true refl page_granted valid.ready r (M.counts before) (M.counts after) ok tt (counted 0 1 (M.counts before) (M.counts after) r counts);
          machine = still;
          free = ap (λ (x : Store). x.free) settles;
          valid = record {
            ready = subst (λ (x : Machine). IsReady x (M.held after)) (sym still) (page_ready m n seg.0 k N (M.held before) (M.held after) true refl page_granted valid.ready r ok tt);
            kept = subst (λ (x : Store). IfSome (M.held after) (λ h. AreKept (segments_in h) x.caches)) (sym settles)
                (subst (λ (o : Option Held). IfSome o (λ h. AreKept (segments_in h) (settled s t n k p P seg named).caches)) (sym ok) (settled_kept s t n k p P seg named (M.held before) valid.ready valid.kept is));
          };
          page = page;
        }

    pub push_there : ArePushed (machine_in old) (segments_of (M.held after)) n k (k + 1)
    push_there =
        let r : Result (Unit {0}) (Unit {0}) = Ok tt in
        page_there_now (machine_in old) n seg.0 k (machine_page s t n k p P seg named) (M.held before) (M.held after) true refl page_granted valid.ready r ok

    pub push_kept : (first : ℕ) → ArePushed (machine_in old) (segments_of (M.held before)) n first k → ArePushed (machine_in old) (segments_of (M.held after)) n first k
    push_kept first h =
        let r : Result (Unit {0}) (Unit {0}) = Ok tt in
        page_kept (machine_in old) n seg.0 k (machine_page s t n k p P seg named) (M.held before) (M.held after) true refl page_granted valid.ready r ok tt first h

-- Pushes, one after the other

pub none_pushed : {X T E : Type 0} (M : GhostsOfMapper X) (x : X) (p : Manager) (y : T) → IsValid p (M.held x) → IsPushed M x p x p (let r : Result T E = Ok y in r)
none_pushed M x p y valid = record { pushed = pushed_start (machine_in p) (M.held x) (M.counts x) y; machine = refl; free = refl; valid = valid; page = refl }

pub both_pushed : {X T U E F : Type 0} (M : GhostsOfMapper X) (a b c : X) (p q r : Manager) (x : Result T E) (y : Result U F) → IsPushed M a p b q x → IsPushed M b q c r y → IsPushed M a p c r y
both_pushed M a b c p q r x y P Q = record {
  pushed = pushed_then (machine_in p) (M.held a) (M.held b) (M.held c) (M.counts a) (M.counts b) (M.counts c) x y P.pushed (subst (λ (m : Machine). Pushed m (M.held b) (M.held c) (M.counts b) (M.counts c) y) P.machine Q.pushed);
  machine = Q.machine ∙ P.machine;
  free = Q.free ∙ P.free;
  valid = Q.valid;
  page = Q.page ∙ P.page;
}

-- the same with another result
pub pushed_so : {X T U E F : Type 0} (M : GhostsOfMapper X) (a b : X) (p q : Manager) (x : Result T E) (y : Result U F) → ((n : ℕ) → OnErr x (0 < n) → OnErr y (0 < n)) → IsPushed M a p b q x → IsPushed M a p b q y
pushed_so M a b p q x y weaker P = record { pushed = pushed_by (machine_in p) (M.held a) (M.held b) (M.counts a) (M.counts b) x y weaker P.pushed; machine = P.machine; free = P.free; valid = P.valid; page = P.page }
