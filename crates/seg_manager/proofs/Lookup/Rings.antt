-- The caches that are kept, as one comes and as one goes.
use Rattle.std.proofs.Common.{◌≡◌, ◌≢◌, ◌==◌, ◌||◌, ◌+◌, ℕ, Bool, true, false, cond, List, [], ◌∷◌, ◌++◌, length, Option, Some, None, refl, sym, ap, subst, ◌∙◌, inl, inr, arith}
use Rattle.std.specs.Prelude.{drop, filter, not, is_some, option_map, option_and_then}
use Rattle.std.proofs.lemmas.Bool.{cases_eq, eq-eqb, ne_eqb}
use Rattle.std.proofs.lemmas.List.{length-append}
use Rattle.interface_callers.proofs.Words.{CacheId}
use Rattle.seg_manager.specs.Inner.{is_of}
use Rattle.seg_manager.specs.Keeps.{AreOnce, is_kept}
use Rattle.seg_manager.specs.Linked.{Linked, changed_at, end_set, link_of, with_after, with_before}
use Rattle.seg_manager.specs.Ring.{AreLinked, IsRing, after_of, before_of, items_of, kept_of, walk}
use Rattle.seg_manager.specs.declared.links.Link.{Link}
use Rattle.seg_manager.specs.declared.tables.Kept.{Kept}
use Rattle.seg_manager.proofs.Lookup.Linking.{filter_out, links_last, unlinks, walked}
use Rattle.seg_manager.proofs.Opens.AgainSeen.{once_filter}
use Rattle.seg_manager.proofs.Lookup.RingSteps.{IsThere, a_before, a_found, a_here, a_kept, a_other, after_off, b_after, b_found, b_here, b_kept, b_other, before_off, link_here, link_other, there_after, there_before, there_by, there_off}

-- All that are kept

pub items_are : (l : Linked) (items : List Kept) → IsRing l items → items_of l ≡ items
items_are l items r = ap (λ (n : ℕ). walk l n l.first) (sym r.count) ∙ walked l None items r.linked

pub ring_of : (l : Linked) (items : List Kept) → IsRing l items → IsRing l (items_of l)
ring_of l items r = subst (IsRing l) (sym (items_are l items r)) r

pub ring_none : (l : Linked) → l.first ≡ None → l.last ≡ None → ((n : ℕ) → link_of l n ≡ None) → l.links ≡ [] → IsRing l []
ring_none l first last none links = record {
  linked = (first, last);
  once = tt;
  found = λ n. ap is_some (none n);
  count = sym (ap length links);
}

alike : (after before after_then before_then : Option CacheId → Option CacheId) (kept kept_then : ℕ → Option Kept)
    → ((s : Option CacheId) → after_then s ≡ after s) → ((t : Option CacheId) → before_then t ≡ before t) → ((n : ℕ) → kept_then n ≡ kept n)
    → (s : Option CacheId) (ks : List Kept) → AreLinked after before kept s ks → AreLinked after_then before_then kept_then s ks
alike after before after_then before_then kept kept_then a b k s [] w = (a s ∙ w.0, b None ∙ w.1)
alike after before after_then before_then kept kept_then a b k s (x ∷ xs) w =
    (a s ∙ w.0, b (Some x.cache) ∙ w.1, k x.cache.0 ∙ w.2, alike after before after_then before_then kept kept_then a b k (Some x.cache) xs w.3)

-- whatever room there is
pub ring_roomy : (l : Linked) (room : ℕ) (items : List Kept) → IsRing l items → IsRing (record l { room = room }) items
ring_roomy l room items r = record {
  linked = alike (after_of l) (before_of l) (after_of (record l { room = room })) (before_of (record l { room = room })) (kept_of l) (kept_of (record l { room = room })) after before (λ n. refl) None items r.linked;
  once = r.once;
  found = r.found;
  count = r.count;
}
  where
    after : (s : Option CacheId) → after_of (record l { room = room }) s ≡ after_of l s
    after None = refl
    after (Some d) = refl

    before : (s : Option CacheId) → before_of (record l { room = room }) s ≡ before_of l s
    before None = refl
    before (Some d) = refl

-- One goes

kept_less : (n : ℕ) (ks : List Kept) (q : ℕ) → is_kept (filter (λ k. not (is_of n k)) ks) q ≡ cond (n == q) false (is_kept ks q)
kept_less n [] q = by (n == q)
  where
    by : (b : Bool) → false ≡ cond b false false
    by true = refl
    by false = refl
kept_less n (k ∷ ks) q = elim (cases_eq k.cache.0 n) [
  | inl is ↦
      ap (λ (b : Bool). is_kept (cond (not b) (k ∷ filter (λ k. not (is_of n k)) ks) (filter (λ k. not (is_of n k)) ks)) q) (eq-eqb k.cache.0 n is)
      ∙ kept_less n ks q ∙ dropped is (n == q) refl
  | inr other ↦
      ap (λ (b : Bool). is_kept (cond (not b) (k ∷ filter (λ k. not (is_of n k)) ks) (filter (λ k. not (is_of n k)) ks)) q) (ne_eqb k.cache.0 n other)
      ∙ ap (λ (b : Bool). (k.cache.0 == q) || b) (kept_less n ks q) ∙ stayed other (n == q) refl
]
  where
    dropped : k.cache.0 ≡ n → (b : Bool) → (n == q) ≡ b → cond (n == q) false (is_kept ks q) ≡ cond (n == q) false ((k.cache.0 == q) || is_kept ks q)
    dropped is true e = ap (λ (b : Bool). cond b false (is_kept ks q)) e ∙ sym (ap (λ (b : Bool). cond b false ((k.cache.0 == q) || is_kept ks q)) e)
    dropped is false e = ap (λ (b : Bool). cond (n == q) false (b || is_kept ks q)) {x = false} {y = k.cache.0 == q} (sym (ap (λ (j : ℕ). j == q) is ∙ e))

    stayed : k.cache.0 ≢ n → (b : Bool) → (n == q) ≡ b → ((k.cache.0 == q) || cond (n == q) false (is_kept ks q)) ≡ cond (n == q) false ((k.cache.0 == q) || is_kept ks q)
    stayed other false e =
        ap (λ (b : Bool). (k.cache.0 == q) || cond b false (is_kept ks q)) e ∙ sym (ap (λ (b : Bool). cond b false ((k.cache.0 == q) || is_kept ks q)) e)
    stayed other true e =
        ap (λ (b : Bool). (k.cache.0 == q) || cond b false (is_kept ks q)) e
        ∙ ap (λ (b : Bool). b || false) (ne_eqb k.cache.0 q (λ is. elim (cases_eq n q) [
          | inl same ↦ other (is ∙ sym same)
          | inr apart ↦ (let wrong : true ≡ false = sym e ∙ ne_eqb n q apart in cc wrong)
        ]))
        ∙ sym (ap (λ (b : Bool). cond b false ((k.cache.0 == q) || is_kept ks q)) e)

fewer : (n : ℕ) (ks : List Kept) → AreOnce ks → is_kept ks n ≡ true → length (filter (λ k. not (is_of n k)) ks) + 1 ≡ length ks
fewer n [] once e = absurd (cc e)
fewer n (k ∷ ks) once e = elim (cases_eq k.cache.0 n) [
  | inl is ↦
      (let free : is_kept ks n ≡ false = ap (is_kept ks) (sym is) ∙ once.0 in
      let gone : filter (λ k. not (is_of n k)) (k ∷ ks) ≡ ks = ap (λ (b : Bool). cond (not b) (k ∷ filter (λ k. not (is_of n k)) ks) (filter (λ k. not (is_of n k)) ks)) (eq-eqb k.cache.0 n is) ∙ filter_out n ks free in
      omega (arith, ap length gone))
  | inr other ↦
      (let stays : filter (λ k. not (is_of n k)) (k ∷ ks) ≡ k ∷ filter (λ k. not (is_of n k)) ks = ap (λ (b : Bool). cond (not b) (k ∷ filter (λ k. not (is_of n k)) ks) (filter (λ k. not (is_of n k)) ks)) (ne_eqb k.cache.0 n other) in
      let rest = fewer n ks once.1 (ap (λ (b : Bool). b || is_kept ks n) (sym (ne_eqb k.cache.0 n other)) ∙ e) in
      omega (arith, ap length stays, rest))
]

module _ (l l1 l2 l3 : Linked) (c : CacheId) (x : Link) (items : List Kept) (r : IsRing l items) (is : Some x ≡ link_of l c.0)
    (links1 : (n : ℕ) → link_of l1 n ≡ cond (c.0 == n) None (link_of l n)) (first1 : l1.first ≡ l.first) (last1 : l1.last ≡ l.last) (count1 : length l1.links + 1 ≡ length l.links)
    (links2 : (n : ℕ) → link_of l2 n ≡ changed_at (with_after x.after) x.before n (link_of l1 n)) (first2 : l2.first ≡ end_set x.before x.after l1.first) (last2 : l2.last ≡ l1.last) (count2 : length l2.links ≡ length l1.links)
    (links3 : (n : ℕ) → link_of l3 n ≡ changed_at (with_before x.before) x.after n (link_of l2 n)) (last3 : l3.last ≡ end_set x.after x.before l2.last) (first3 : l3.first ≡ l2.first) (count3 : length l3.links ≡ length l2.links) where
  abbrev F : List Kept
  F = filter (λ k. not (is_of c.0 k)) items

  before_is : before_of l (Some c) ≡ x.before
  before_is = ap (option_and_then (λ (x : Link). x.before)) (sym is)

  after_is : after_of l (Some c) ≡ x.after
  after_is = ap (option_and_then (λ (x : Link). x.after)) (sym is)

  was_kept : is_kept items c.0 ≡ true
  was_kept = sym (r.found c.0) ∙ ap is_some (sym is)

  pub ring_less : IsRing l3 F
  ring_less = record {
    linked = unlinks (after_of l) (before_of l) (after_of l3) (before_of l3) (kept_of l) (kept_of l3) c
        (λ s here apart next.
        b_after l2 l3 x.after x.before links3 last3 first3 s
        ∙ a_here l1 l2 x.before x.after links2 first2 last2 s (here ∙ before_is) (there_off l l1 c None links1 first1 last1 s apart (there_after l s c next))
        ∙ sym after_is)
        (λ s off apart.
        b_after l2 l3 x.after x.before links3 last3 first3 s
        ∙ a_other l1 l2 x.before x.after links2 first2 last2 s (λ e. off (e ∙ sym before_is))
        ∙ after_off l l1 c None links1 first1 last1 s apart)
        (λ t here apart next.
        b_here l2 l3 x.after x.before links3 last3 first3 t (here ∙ after_is)
        (there_by l1 l2 t (λ d e. a_found l1 l2 x.before x.after links2 first2 last2 d.0) (there_off l l1 c None links1 first1 last1 t apart (there_before l t c next)))
        ∙ sym before_is)
        (λ t off apart.
        b_other l2 l3 x.after x.before links3 last3 first3 t (λ e. off (e ∙ sym after_is))
        ∙ a_before l1 l2 x.before x.after links2 first2 last2 t
        ∙ before_off l l1 c None links1 first1 last1 t apart)
        (λ n apart.
        b_kept l2 l3 x.after x.before links3 last3 first3 n
        ∙ a_kept l1 l2 x.before x.after links2 first2 last2 n
        ∙ ap (option_map (λ (x : Link). x.kept)) (link_other l l1 c None links1 first1 last1 n (λ e. apart (sym e))))
        None items r.linked r.once was_kept tt;
    once = once_filter (λ k. not (is_of c.0 k)) items r.once;
    found = λ n.
        b_found l2 l3 x.after x.before links3 last3 first3 n
        ∙ a_found l1 l2 x.before x.after links2 first2 last2 n
        ∙ ap is_some (links1 n)
        ∙ by (c.0 == n) (link_of l n)
        ∙ ap (cond (c.0 == n) false) (r.found n)
        ∙ sym (kept_less c.0 items n);
    count = omega (arith, fewer c.0 items r.once was_kept, r.count, count1, count2, count3);
  }
    where
      by : (b : Bool) (o : Option Link) → is_some (cond b None o) ≡ cond b false (is_some o)
      by true o = refl
      by false o = refl

-- where it isn't kept, none goes
pub none_less : (l : Linked) (items : List Kept) (n : ℕ) → IsRing l items → None ≡ link_of l n → filter (λ k. not (is_of n k)) items ≡ items
none_less l items n r none = filter_out n items (sym (r.found n) ∙ ap is_some (sym none))

-- the first one goes
pub first_less : (l : Linked) (items : List Kept) (c : CacheId) → IsRing l items → l.first ≡ Some c → filter (λ k. not (is_of c.0 k)) items ≡ drop 1 items
first_less l items c r first = by items r.linked r.once
  where
    by : (ks : List Kept) → AreLinked (after_of l) (before_of l) (kept_of l) None ks → AreOnce ks → filter (λ k. not (is_of c.0 k)) ks ≡ drop 1 ks
    by [] w once = refl
    by (k ∷ ks) w once =
        let two : Some k.cache ≡ Some c = sym w.0 ∙ first in
        let same : k.cache ≡ c = cc two in
        let is : k.cache.0 ≡ c.0 = ap (λ (x : CacheId). x.0) same in
        ap (λ (b : Bool). cond (not b) (k ∷ filter (λ k. not (is_of c.0 k)) ks) (filter (λ k. not (is_of c.0 k)) ks)) (eq-eqb k.cache.0 c.0 is)
        ∙ filter_out c.0 ks (ap (is_kept ks) (sym is) ∙ once.0)

pub none_first : (l : Linked) (items : List Kept) → IsRing l items → None ≡ l.first → items ≡ drop 1 items
none_first l items r first = by items r.linked
  where
    by : (ks : List Kept) → AreLinked (after_of l) (before_of l) (kept_of l) None ks → ks ≡ drop 1 ks
    by [] w = refl
    by (k ∷ ks) w = absurd (let wrong : None ≡ Some k.cache = first ∙ w.0 in cc wrong)

-- Another one comes

once_apart : (ks : List Kept) (k : Kept) → AreOnce (ks ++ k ∷ []) → is_kept ks k.cache.0 ≡ false
once_apart [] k once = refl
once_apart (j ∷ ks) k once = elim (cases_eq j.cache.0 k.cache.0) [
  | inl is ↦ absurd (let wrong : true ≡ false = sym (kept_last ks k j.cache.0 (sym is)) ∙ once.0 in cc wrong)
  | inr other ↦ ap (λ (b : Bool). b || is_kept ks k.cache.0) (ne_eqb j.cache.0 k.cache.0 other) ∙ once_apart ks k once.1
]
  where
    kept_last : (ks : List Kept) (k : Kept) (n : ℕ) → k.cache.0 ≡ n → is_kept (ks ++ k ∷ []) n ≡ true
    kept_last [] k n e = ap (λ (b : Bool). b || false) (eq-eqb k.cache.0 n e)
    kept_last (i ∷ ks) k n e = ap (λ (b : Bool). (i.cache.0 == n) || b) (kept_last ks k n e) ∙ or_true (i.cache.0 == n)
      where
        or_true : (b : Bool) → (b || true) ≡ true
        or_true true = refl
        or_true false = refl

kept_more : (ks : List Kept) (k : Kept) (n : ℕ) → is_kept (ks ++ k ∷ []) n ≡ cond (k.cache.0 == n) true (is_kept ks n)
kept_more [] k n = by (k.cache.0 == n)
  where
    by : (b : Bool) → (b || false) ≡ cond b true false
    by true = refl
    by false = refl
kept_more (j ∷ ks) k n = ap (λ (b : Bool). (j.cache.0 == n) || b) (kept_more ks k n) ∙ by (j.cache.0 == n) (k.cache.0 == n) (is_kept ks n)
  where
    by : (a b d : Bool) → (a || cond b true d) ≡ cond b true (a || d)
    by true true d = refl
    by true false d = refl
    by false b d = refl

-- it isn't linked yet
pub not_linked : (l : Linked) (items : List Kept) (k : Kept) → IsRing l items → AreOnce (items ++ k ∷ []) → link_of l k.cache.0 ≡ None
not_linked l items k r once = by (link_of l k.cache.0) (r.found k.cache.0 ∙ once_apart items k once)
  where
    by : (o : Option Link) → is_some o ≡ false → o ≡ None
    by None e = refl
    by (Some x) e = absurd (cc e)

last_there : (l : Linked) (s : Option CacheId) (ks : List Kept) → IsThere l s → AreLinked (after_of l) (before_of l) (kept_of l) s ks → IsThere l (before_of l None)
last_there l s [] there w = subst (IsThere l) (sym w.1) there
last_there l s (k ∷ ks) there w = last_there l (Some k.cache) ks (by (link_of l k.cache.0) w.2) w.3
  where
    by : (o : Option Link) → option_map (λ (x : Link). x.kept) o ≡ Some k → is_some o ≡ true
    by None e = absurd (cc e)
    by (Some x) e = refl

there_apart : (l : Linked) (s : Option CacheId) (c : CacheId) → link_of l c.0 ≡ None → IsThere l s → s ≢ Some c
there_apart l None c none there e = absurd (cc e)
there_apart l (Some d) c none there e =
    let same : d ≡ c = cc e in
    let wrong : false ≡ true = ap is_some (sym (ap (λ (x : CacheId). link_of l x.0) same ∙ none)) ∙ there in
    absurd (cc wrong)

module _ (l l1 l2 l3 : Linked) (k : Kept) (items : List Kept) (r : IsRing l items) (once : AreOnce (items ++ k ∷ []))
    (links1 : (n : ℕ) → link_of l1 n ≡ cond (k.cache.0 == n) (Some (record { kept = k; before = l.last; after = None })) (link_of l n)) (first1 : l1.first ≡ l.first) (last1 : l1.last ≡ l.last) (count1 : length l1.links ≡ length l.links + 1)
    (links2 : (n : ℕ) → link_of l2 n ≡ changed_at (with_after (Some k.cache)) l.last n (link_of l1 n)) (first2 : l2.first ≡ end_set l.last (Some k.cache) l1.first) (last2 : l2.last ≡ l1.last) (count2 : length l2.links ≡ length l1.links)
    (links3 : (n : ℕ) → link_of l3 n ≡ changed_at (with_before (Some k.cache)) None n (link_of l2 n)) (last3 : l3.last ≡ end_set None (Some k.cache) l2.last) (first3 : l3.first ≡ l2.first) (count3 : length l3.links ≡ length l2.links) where
  abbrev X : Link
  X = record { kept = k; before = l.last; after = None }

  there : IsThere l l.last
  there = last_there l None items tt r.linked

  apart : l.last ≢ Some k.cache
  apart = there_apart l l.last k.cache (not_linked l items k r once) there

  pub ring_more : IsRing l3 (items ++ k ∷ [])
  ring_more = record {
    linked = links_last (after_of l) (before_of l) (after_of l3) (before_of l3) (kept_of l) (kept_of l3) k
        (λ none off.
        b_after l2 l3 None (Some k.cache) links3 last3 first3 l.last
        ∙ a_here l1 l2 l.last (Some k.cache) links2 first2 last2 l.last refl (there_off l l1 k.cache (Some X) links1 first1 last1 l.last off there))
        (λ s off other.
        b_after l2 l3 None (Some k.cache) links3 last3 first3 s
        ∙ a_other l1 l2 l.last (Some k.cache) links2 first2 last2 s off
        ∙ after_off l l1 k.cache (Some X) links1 first1 last1 s other)
        (b_after l2 l3 None (Some k.cache) links3 last3 first3 (Some k.cache)
        ∙ a_other l1 l2 l.last (Some k.cache) links2 first2 last2 (Some k.cache) (λ e. apart (sym e))
        ∙ ap (option_and_then (λ (x : Link). x.after)) (link_here l l1 k.cache (Some X) links1 first1 last1))
        (b_other l2 l3 None (Some k.cache) links3 last3 first3 (Some k.cache) (λ e. absurd (cc e))
        ∙ a_before l1 l2 l.last (Some k.cache) links2 first2 last2 (Some k.cache)
        ∙ ap (option_and_then (λ (x : Link). x.before)) (link_here l l1 k.cache (Some X) links1 first1 last1))
        (b_here l2 l3 None (Some k.cache) links3 last3 first3 None refl tt)
        (λ t some other.
        b_other l2 l3 None (Some k.cache) links3 last3 first3 t some
        ∙ a_before l1 l2 l.last (Some k.cache) links2 first2 last2 t
        ∙ before_off l l1 k.cache (Some X) links1 first1 last1 t other)
        (b_kept l2 l3 None (Some k.cache) links3 last3 first3 k.cache.0
        ∙ a_kept l1 l2 l.last (Some k.cache) links2 first2 last2 k.cache.0
        ∙ ap (option_map (λ (x : Link). x.kept)) (link_here l l1 k.cache (Some X) links1 first1 last1))
        (λ n other.
        b_kept l2 l3 None (Some k.cache) links3 last3 first3 n
        ∙ a_kept l1 l2 l.last (Some k.cache) links2 first2 last2 n
        ∙ ap (option_map (λ (x : Link). x.kept)) (link_other l l1 k.cache (Some X) links1 first1 last1 n (λ e. other (sym e))))
        None items r.linked (λ e. absurd (cc e)) (once_apart items k once);
    once = once;
    found = λ n.
        b_found l2 l3 None (Some k.cache) links3 last3 first3 n
        ∙ a_found l1 l2 l.last (Some k.cache) links2 first2 last2 n
        ∙ ap is_some (links1 n)
        ∙ by (k.cache.0 == n) (link_of l n)
        ∙ ap (cond (k.cache.0 == n) true) (r.found n)
        ∙ sym (kept_more items k n);
    count = omega (arith, length-append items (k ∷ []), r.count, count1, count2, count3);
  }
    where
      by : (b : Bool) (o : Option Link) → is_some (cond b (Some X) o) ≡ cond b true (is_some o)
      by true o = refl
      by false o = refl
