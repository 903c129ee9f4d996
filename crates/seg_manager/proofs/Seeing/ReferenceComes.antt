-- What is seen where a reference comes.
use Rattle.std.proofs.Common.{◌≡◌, ◌≢◌, ◌==◌, ℕ, zero, suc, ◌+◌, Bool, true, false, cond, [], ◌∷◌, set, Option, Some, None, refl, sym, ap, ◌∙◌, arith, inl, inr}
use Rattle.std.specs.Prelude.{slice_get}
use Rattle.std.specs.Option.{option_map_or}
use Rattle.std.proofs.lemmas.Bool.{cases_eq, eq-eqb, eqb-true, ne_eqb}
use Rattle.interface_callers.proofs.Words.{Cache, cache_named, is_named_by}
use Rattle.interface_callers.proofs.Naming.{has_number}
use Rattle.seg_manager.specs.ReferenceMachine.{ReferenceMachine, Stored, goes, stored_from, used, used_at}
use Rattle.seg_manager.proofs.Lookup.Entries.{fun_same}
use Rattle.seg_manager.proofs.Seeing.WhichGo.{Caches}
use Rattle.seg_manager.proofs.Seeing.StoredPages.{AreApart, named_self, stored_free, stored_one}

-- What goes is the same but for one place.
module _ (m n : ReferenceMachine) where
  abbrev pub GoAlike : ℕ → Caches → Type 0
  GoAlike k xs = (j : ℕ) (d : Cache) → slice_get xs j ≡ Some (Some d) → goes n (k + j) d ≡ goes m (k + j) d

  abbrev pub GoAlikeBut : ℕ → Caches → ℕ → Type 0
  GoAlikeBut k xs i = (j : ℕ) (d : Cache) → slice_get xs j ≡ Some (Some d) → j ≢ i → goes n (k + j) d ≡ goes m (k + j) d

  first_same : (k : ℕ) (o : Option Cache) → ((d : Cache) → Some o ≡ Some (Some d) → goes n (k + 0) d ≡ goes m (k + 0) d) → used_at n k o ≡ used_at m k o
  first_same k None same = refl
  first_same k (Some d) same = ap (λ (b : Bool). cond b None (Some d)) (ap (λ (j : ℕ). goes n j d) (let e : k ≡ k + 0 = omega arith in e) ∙ same d refl ∙ ap (λ (j : ℕ). goes m j d) (let e : k + 0 ≡ k = omega arith in e))

  behind : (k j : ℕ) → k + 1 + j ≡ k + suc j
  behind k j = omega arith

  pub used_all : (k : ℕ) (xs : Caches) → GoAlike k xs → used n k xs ≡ used m k xs
  used_all k [] same = refl
  used_all k (x ∷ xs) same = λ i. first_same k x (same 0) i ∷ used_all (k + 1) xs (λ j d e. ap (λ (l : ℕ). goes n l d) (behind k j) ∙ same (suc j) d e ∙ ap (λ (l : ℕ). goes m l d) (sym (behind k j))) i

  pub used_turn : (k : ℕ) (xs : Caches) (i : ℕ) (c : Cache) → slice_get xs i ≡ Some (Some c) → goes n (k + i) c ≡ false → GoAlikeBut k xs i → used n k xs ≡ set (used m k xs) i (Some c)
  used_turn k [] i c there stays same = absurd (cc there)
  used_turn k (x ∷ xs) zero c there stays same =
      let is : x ≡ Some c = cc there in
      λ i. (ap (used_at n k) is ∙ ap (λ (b : Bool). cond b None (Some c)) (ap (λ (j : ℕ). goes n j c) (let e : k ≡ k + 0 = omega arith in e) ∙ stays)) i
      ∷ used_all (k + 1) xs (λ j d e. ap (λ (l : ℕ). goes n l d) (behind k j) ∙ same (suc j) d e (λ s. absurd (omega (arith, s))) ∙ ap (λ (l : ℕ). goes m l d) (sym (behind k j))) i
  used_turn k (x ∷ xs) (suc i) c there stays same =
      λ l. first_same k x (λ d e. same 0 d e (λ s. absurd (omega (arith, s)))) l
      ∷ used_turn (k + 1) xs i c there (ap (λ (j : ℕ). goes n j c) (behind k i) ∙ stays)
      (λ j d e apart. ap (λ (l : ℕ). goes n l d) (behind k j) ∙ same (suc j) d e (λ s. apart (omega (arith, s))) ∙ ap (λ (l : ℕ). goes m l d) (sym (behind k j))) l

  module _ (cs : Caches) (apart : AreApart cs) (stored : n.stored ≡ m.stored) where
    at_named : (x j : ℕ) (d : Cache) → slice_get cs j ≡ Some (Some d) → is_named_by x (Some d) ≡ true → goes n (1 + j) d ≡ goes m (1 + j) d → stored_from n 1 cs x ≡ stored_from m 1 cs x
    at_named x j d e named same =
        stored_one n x 1 cs j d e named (λ i c f g. apart i j x c d f e g named)
        ∙ (λ i. cond (same i) (Some d.pages) (stored i x))
        ∙ sym (stored_one m x 1 cs j d e named (λ i c f g. apart i j x c d f e g named))

    at_free : (x : ℕ) → cache_named cs x ≡ None → stored_from n 1 cs x ≡ stored_from m 1 cs x
    at_free x e = stored_free n x 1 cs e ∙ ap (λ (st : Stored). st x) stored ∙ sym (stored_free m x 1 cs e)

    pub stored_all : GoAlike 1 cs → stored_from n 1 cs ≡ stored_from m 1 cs
    stored_all same = fun_same (stored_from n 1 cs) (stored_from m 1 cs) (λ x. by x (cache_named cs x) refl)
      where
        by : (x : ℕ) (o : Option Cache) → cache_named cs x ≡ o → stored_from n 1 cs x ≡ stored_from m 1 cs x
        by x None e = at_free x e
        by x (Some d) e = let at = has_number x cs d e in at_named x at.place d at.there (named_self x d at.named) (same at.place d at.there)

    -- the cache of this segment comes back: nothing is stored for it
    pub stored_turn : (seg i : ℕ) (c : Cache) → slice_get cs i ≡ Some (Some c) → is_named_by seg (Some c) ≡ true → goes n (1 + i) c ≡ false → n.stored seg ≡ None → GoAlikeBut 1 cs i
        → stored_from n 1 cs ≡ (λ x. cond (x == seg) None (stored_from m 1 cs x))
    stored_turn seg i c there mine stays none same = fun_same (stored_from n 1 cs) (λ x. cond (x == seg) None (stored_from m 1 cs x)) (λ x. elim (cases_eq x seg) [
      | inl e ↦ ap (stored_from n 1 cs) e ∙ here ∙ sym (ap (λ (b : Bool). cond b None (stored_from m 1 cs x)) (eq-eqb x seg e))
      | inr other ↦ by x other (cache_named cs x) refl ∙ sym (ap (λ (b : Bool). cond b None (stored_from m 1 cs x)) (ne_eqb x seg other))
    ])
      where
        here : stored_from n 1 cs seg ≡ None
        here = stored_one n seg 1 cs i c there mine (λ j d e g. apart j i seg d c e there g mine) ∙ ap (λ (b : Bool). cond b (Some c.pages) (n.stored seg)) stays ∙ none

        by : (x : ℕ) → x ≢ seg → (o : Option Cache) → cache_named cs x ≡ o → stored_from n 1 cs x ≡ stored_from m 1 cs x
        by x other None e = at_free x e
        by x other (Some d) e =
            let at = has_number x cs d e in
            at_named x at.place d at.there (named_self x d at.named) (same at.place d at.there (λ s.
            let both : Some (Some d) ≡ Some (Some c) = sym at.there ∙ ap (slice_get cs) s ∙ there in
            let is : d ≡ c = cc both in
            other (one x at.named (ap (λ (y : Cache). y.segment) (sym is)))))
          where
            one : (x : ℕ) → d.segment ≡ Some x → c.segment ≡ d.segment → x ≡ seg
            one x named same_segment = by_segment c.segment mine (same_segment ∙ named)
              where
                by_segment : (o : Option ℕ) → option_map_or (λ s. s == seg) o false ≡ true → o ≡ Some x → x ≡ seg
                by_segment None e f = absurd (cc e)
                by_segment (Some s) e f = let same : s ≡ x = cc f in sym same ∙ eqb-true s seg e
