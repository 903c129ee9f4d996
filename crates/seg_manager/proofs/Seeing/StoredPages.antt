-- What is stored for a segment, and what is seen where references go or come.
use Rattle.std.proofs.Common.{◌≡◌, ◌==◌, ℕ, zero, suc, ◌+◌, ◌-◌, Bool, true, false, cond, [], ◌∷◌, Option, Some, None, refl, sym, ap, ◌∙◌, arith}
use Rattle.std.specs.Prelude.{is_some, option_and_then, option_map, slice_get}
use Rattle.std.specs.Option.{option_map_or}
use Rattle.std.proofs.lemmas.Bool.{eq-eqb, eqb-true}
use Rattle.vm_model.proofs.Parts.ListParts.{at_some}
use Rattle.interface_callers.proofs.Words.{Cache, Machine, cache_named, cache_of, is_named_by, segment_of}
use Rattle.interface_callers.proofs.Naming.{has_number}
use Rattle.seg_manager.specs.ReferenceMachine.{ReferenceMachine, Stored, goes, let_go, put_stored, stored_at, stored_from, used, used_at}
use Rattle.seg_manager.proofs.Lookup.Entries.{fun_same}
use Rattle.seg_manager.proofs.Seeing.WhichGo.{Caches, get_used}
use Rattle.seg_manager.proofs.Seeing.Naming.{none_goes, put_other, put_own}

-- a segment names one of these caches at most
abbrev pub AreApart : Caches → Type 0
AreApart cs = (i j seg : ℕ) (c d : Cache) → slice_get cs i ≡ Some (Some c) → slice_get cs j ≡ Some (Some d) → is_named_by seg (Some c) ≡ true → is_named_by seg (Some d) ≡ true → i ≡ j

pub named_self : (seg : ℕ) (c : Cache) → c.segment ≡ Some seg → is_named_by seg (Some c) ≡ true
named_self seg c e = ap (λ (o : Option ℕ). option_map_or (λ s. s == seg) o false) e ∙ eq-eqb seg seg refl

-- The value for a segment whose cache stands here
module _ (m : ReferenceMachine) (seg : ℕ) where
  -- no other cache is named so
  abbrev Only : Caches → ℕ → Type 0
  Only cs i = (j : ℕ) (d : Cache) → slice_get cs j ≡ Some (Some d) → is_named_by seg (Some d) ≡ true → j ≡ i

  past : (k : ℕ) (o : Option Cache) (rest : Stored) → is_named_by seg o ≡ false → stored_at m k o rest seg ≡ rest seg
  past k None rest e = refl
  past k (Some c) rest e = by (goes m k c)
    where
      by : (b : Bool) → cond b (put_stored c.segment c.pages rest) rest seg ≡ rest seg
      by true = put_other seg c.segment c.pages rest e
      by false = refl

  unnamed_here : (o : Option Cache) → ((d : Cache) → Some o ≡ Some (Some d) → is_named_by seg (Some d) ≡ true → ⊥) → is_named_by seg o ≡ false
  unnamed_here None none = refl
  unnamed_here (Some d) none = by (is_named_by seg (Some d)) refl
    where
      by : (b : Bool) → is_named_by seg (Some d) ≡ b → b ≡ false
      by true e = absurd (none d refl e)
      by false e = refl

  none_there : (k : ℕ) (cs : Caches) → ((j : ℕ) (d : Cache) → slice_get cs j ≡ Some (Some d) → is_named_by seg (Some d) ≡ true → ⊥) → stored_from m k cs seg ≡ m.stored seg
  none_there k [] none = refl
  none_there k (o ∷ cs) none =
      past k o (stored_from m (k + 1) cs) (unnamed_here o (none 0))
      ∙ none_there (k + 1) cs (λ j d e named. none (suc j) d e named)

  pub stored_one : (k : ℕ) (cs : Caches) (i : ℕ) (c : Cache) → slice_get cs i ≡ Some (Some c) → is_named_by seg (Some c) ≡ true → Only cs i → stored_from m k cs seg ≡ cond (goes m (k + i) c) (Some c.pages) (m.stored seg)
  stored_one k [] i c there named only = absurd (cc there)
  stored_one k (o ∷ cs) zero c there named only =
      let is : o ≡ Some c = cc there in
      let rest : stored_from m (k + 1) cs seg ≡ m.stored seg = none_there (k + 1) cs (λ j d e named. absurd (let wrong : suc j ≡ 0 = only (suc j) d e named in omega (arith, wrong))) in
      ap (λ (x : Option Cache). stored_at m k x (stored_from m (k + 1) cs) seg) is
      ∙ by (goes m k c) rest
      ∙ ap (λ (n : ℕ). cond (goes m n c) (Some c.pages) (m.stored seg)) (let e : k ≡ k + 0 = omega arith in e)
    where
      by : (b : Bool) → stored_from m (k + 1) cs seg ≡ m.stored seg → cond b (put_stored c.segment c.pages (stored_from m (k + 1) cs)) (stored_from m (k + 1) cs) seg ≡ cond b (Some c.pages) (m.stored seg)
      by true e = put_own seg c.segment c.pages (stored_from m (k + 1) cs) named
      by false e = e
  stored_one k (o ∷ cs) (suc i) c there named only =
      past k o (stored_from m (k + 1) cs) (unnamed_here o (λ d e n. absurd (let wrong : 0 ≡ suc i = only 0 d (let f : Some o ≡ Some (Some d) = e in f) n in omega (arith, wrong))))
      ∙ stored_one (k + 1) cs i c there named (λ j d e n. (let s : suc j ≡ suc i = only (suc j) d e n in omega (arith, s)))
      ∙ ap (λ (n : ℕ). cond (goes m n c) (Some c.pages) (m.stored seg)) (let s : k + 1 + i ≡ k + suc i = omega arith in s)

-- No cache is named so
pub stored_free : (m : ReferenceMachine) (seg k : ℕ) (cs : Caches) → cache_named cs seg ≡ None → stored_from m k cs seg ≡ m.stored seg
stored_free m seg k cs e = (none_goes seg m k cs (ap is_some e)).1

-- References go

-- what goes with the one goes with the other
abbrev pub GoesToo : ReferenceMachine → ReferenceMachine → Type 0
GoesToo m n = (k : ℕ) (c : Cache) → goes m k c ≡ true → goes n k c ≡ true

pub used_twice : (m n : ReferenceMachine) → GoesToo m n → (k : ℕ) (xs : Caches) → used n k (used m k xs) ≡ used n k xs
used_twice m n too k [] = refl
used_twice m n too k (o ∷ xs) = λ i. first o i ∷ used_twice m n too (k + 1) xs i
  where
    by : (c : Cache) (b : Bool) → goes m k c ≡ b → used_at n k (cond b None (Some c)) ≡ used_at n k (Some c)
    by c true e = sym (ap (λ (b : Bool). cond b None (Some c)) (too k c e))
    by c false e = refl

    first : (o : Option Cache) → used_at n k (used_at m k o) ≡ used_at n k o
    first None = refl
    first (Some c) = by c (goes m k c) refl

-- The references of n, over what is left by m: that is the same as those of n at once.
module _ (m n : ReferenceMachine) (too : GoesToo m n) (cs : Caches) (caches : n.memory.caches ≡ used m 1 cs) (stored : n.stored ≡ stored_from m 1 cs) (apart : AreApart cs) where
  abbrev whole : ReferenceMachine
  whole = record { memory = record n.memory { caches = cs }; stored = m.stored; openings = n.openings }

  used_whole : (k : ℕ) (xs : Caches) → used whole k xs ≡ used n k xs
  used_whole k [] = refl
  used_whole k (None ∷ xs) = ap (λ (ys : Caches). None ∷ ys) (used_whole (k + 1) xs)
  used_whole k (Some c ∷ xs) = ap (λ (ys : Caches). cond (goes n k c) None (Some c) ∷ ys) (used_whole (k + 1) xs)

  all_used : used n 1 n.memory.caches ≡ used whole 1 cs
  all_used = ap (used n 1) caches ∙ used_twice m n too 1 cs ∙ sym (used_whole 1 cs)

  module _ (seg : ℕ) (i : ℕ) (c : Cache) (there : slice_get cs i ≡ Some (Some c)) (named : is_named_by seg (Some c) ≡ true) where
    only : (j : ℕ) (d : Cache) → slice_get cs j ≡ Some (Some d) → is_named_by seg (Some d) ≡ true → j ≡ i
    only j d e f = apart j i seg d c e there f named

    used_there : slice_get (used m 1 cs) i ≡ Some (used_at m (1 + i) (Some c))
    used_there = get_used m 1 cs i ∙ ap (option_map (used_at m (1 + i))) there

    used_only : (j : ℕ) (d : Cache) → slice_get (used m 1 cs) j ≡ Some (Some d) → is_named_by seg (Some d) ≡ true → slice_get cs j ≡ Some (Some d)
    used_only j d e f = by (slice_get cs j) refl (sym (get_used m 1 cs j) ∙ e)
      where
        kept : (x : Cache) (b : Bool) → Some (cond b None (Some x)) ≡ Some (Some d) → Some (Some x) ≡ Some (Some d)
        kept x true e = absurd (let wrong : None ≡ Some d = cc e in cc wrong)
        kept x false e = e

        by : (o : Option (Option Cache)) → slice_get cs j ≡ o → option_map (used_at m (1 + j)) o ≡ Some (Some d) → slice_get cs j ≡ Some (Some d)
        by None is e = absurd (cc e)
        by (Some None) is e = absurd (let wrong : None ≡ Some d = cc e in cc wrong)
        by (Some (Some x)) is e = is ∙ kept x (goes m (1 + j) x) e

    -- it was left already, or it goes now, or it stays
    left_already : goes m (1 + i) c ≡ true → stored_from n 1 (used m 1 cs) seg ≡ cond (goes whole (1 + i) c) (Some c.pages) (m.stored seg)
    left_already g =
        none_there n seg 1 (used m 1 cs) (λ j d e f.
        let at = used_only j d e f in
        let same : j ≡ i = only j d at f in
        let here : Some (used_at m (1 + i) (Some c)) ≡ Some (Some d) = sym used_there ∙ ap (slice_get (used m 1 cs)) (sym same) ∙ e in
        absurd (let wrong : None ≡ Some d = (let s : used_at m (1 + i) (Some c) ≡ Some d = cc here in sym (ap (λ (b : Bool). cond b None (Some c)) g) ∙ s) in cc wrong))
        ∙ ap (λ (st : Stored). st seg) stored
        ∙ stored_one m seg 1 cs i c there named only
        ∙ ap (λ (b : Bool). cond b (Some c.pages) (m.stored seg)) (g ∙ sym (too (1 + i) c g))

    still_there : goes m (1 + i) c ≡ false → stored_from n 1 (used m 1 cs) seg ≡ cond (goes whole (1 + i) c) (Some c.pages) (m.stored seg)
    still_there g =
        stored_one n seg 1 (used m 1 cs) i c (used_there ∙ ap (λ (b : Bool). Some (cond b None (Some c))) g) named (λ j d e f. only j d (used_only j d e f) f)
        ∙ ap (cond (goes n (1 + i) c) (Some c.pages))
        (ap (λ (st : Stored). st seg) stored ∙ stored_one m seg 1 cs i c there named only ∙ ap (λ (b : Bool). cond b (Some c.pages) (m.stored seg)) g)

    at_named : stored_from n 1 (used m 1 cs) seg ≡ stored_from whole 1 cs seg
    at_named = by (goes m (1 + i) c) refl ∙ sym (stored_one whole seg 1 cs i c there named only)
      where
        by : (b : Bool) → goes m (1 + i) c ≡ b → stored_from n 1 (used m 1 cs) seg ≡ cond (goes whole (1 + i) c) (Some c.pages) (m.stored seg)
        by true g = left_already g
        by false g = still_there g

  at_free : (seg : ℕ) → cache_named cs seg ≡ None → stored_from n 1 (used m 1 cs) seg ≡ stored_from whole 1 cs seg
  at_free seg e =
      let gone = none_goes seg m 1 cs (ap is_some e) in
      (none_goes seg n 1 (used m 1 cs) gone.0).1 ∙ ap (λ (st : Stored). st seg) stored ∙ gone.1 ∙ sym (stored_free whole seg 1 cs e)

  all_stored : stored_from n 1 n.memory.caches ≡ stored_from whole 1 cs
  all_stored = ap (stored_from n 1) caches ∙ fun_same (stored_from n 1 (used m 1 cs)) (stored_from whole 1 cs) (λ seg. by seg (cache_named cs seg) refl)
    where
      by : (seg : ℕ) (o : Option Cache) → cache_named cs seg ≡ o → stored_from n 1 (used m 1 cs) seg ≡ stored_from whole 1 cs seg
      by seg None e = at_free seg e
      by seg (Some c) e = let at = has_number seg cs c e in at_named seg at.place c at.there (named_self seg c at.named)

  pub absorbed : let_go n ≡ let_go whole
  absorbed = λ i. record { memory = record n.memory { caches = all_used i }; stored = all_stored i; openings = n.openings }

-- no segment has two caches, as numbers say it
pub apart_by : (m : Machine) → ((i j seg : ℕ) → segment_of m i ≡ Some seg → segment_of m j ≡ Some seg → i ≡ j) → AreApart m.caches
apart_by m apart i j seg c d e f p q =
    let same : suc i ≡ suc j = apart (suc i) (suc j) seg (at i c e p) (at j d f q) in
    omega (arith, same)
  where
    of : (x : Option ℕ) → option_map_or (λ s. s == seg) x false ≡ true → x ≡ Some seg
    of None e = absurd (cc e)
    of (Some s) e = ap (λ (n : ℕ). Some n) (eqb-true s seg e)

    at : (i : ℕ) (c : Cache) → slice_get m.caches i ≡ Some (Some c) → is_named_by seg (Some c) ≡ true → segment_of m (suc i) ≡ Some seg
    at i c e p =
        let there : cache_of m (suc i) ≡ Some c = at_some m.caches (suc i) (omega arith) ∙ ap (option_and_then (λ (x : Option Cache). x)) (ap (slice_get m.caches) (let k : suc i - 1 ≡ i = omega arith in k) ∙ e) in
        ap (option_and_then (λ (c : Cache). c.segment)) there ∙ of c.segment p
