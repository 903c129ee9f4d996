-- Which cache a segment names, where the caches change, and what is stored when caches go.
use Rattle.std.proofs.Common.{◌≡◌, ◌==◌, ℕ, zero, suc, ◌+◌, ◌-◌, ◌<◌, ◌≤◌, Bool, true, false, cond, List, [], ◌∷◌, ◌++◌, length, Option, Some, None, refl, sym, ap, ◌∙◌, arith}
use Rattle.std.specs.Prelude.{is_some, nat_le, option_and_then, replicate, slice_get, slice_set}
use Rattle.std.specs.Option.{option_map_or}
use Rattle.std.proofs.lemmas.Bool.{eq-eqb}
use Rattle.std.proofs.lemmas.Bool.Decides.{nat_tests}
use Rattle.vm_model.proofs.Parts.ListParts.{at_some}
use Rattle.interface_callers.proofs.Words.{Cache, Page, cache_named, is_named_by, numbered}
use Rattle.interface_callers.proofs.Naming.{named_by}
use Rattle.seg_manager.specs.ReferenceMachine.{ReferenceMachine, Stored, goes, put_stored, stored_at, stored_from, used, used_at, with_cache}

-- a segment names one of these caches
abbrev pub has_named : ℕ → List (Option Cache) → Bool
has_named seg cs = is_some (cache_named cs seg)

module _ (seg : ℕ) where
  pub head_named : (o rest : Option Cache) → is_some (cond (is_named_by seg o) o rest) ≡ cond (is_named_by seg o) true (is_some rest)
  head_named None rest = refl
  head_named (Some c) rest = by (is_named_by seg (Some c))
    where
      by : (b : Bool) → is_some (cond b (Some c) rest) ≡ cond b true (is_some rest)
      by true = refl
      by false = refl

  -- one cache stands in place of another that is named as it is
  pub set_named : (cs : List (Option Cache)) (i : ℕ) (o c : Option Cache) → slice_get cs i ≡ Some o → is_named_by seg o ≡ is_named_by seg c → has_named seg (slice_set cs i c) ≡ has_named seg cs
  set_named [] i o c there e = absurd (cc there)
  set_named (x ∷ cs) zero o c there e =
      let is : x ≡ o = cc there in
      head_named c (cache_named cs seg)
      ∙ ap (λ (b : Bool). cond b true (has_named seg cs)) (sym e ∙ ap (is_named_by seg) (sym is))
      ∙ sym (head_named x (cache_named cs seg))
  set_named (x ∷ cs) (suc i) o c there e =
      head_named x (cache_named (slice_set cs i c) seg)
      ∙ ap (cond (is_named_by seg x) true) (set_named cs i o c there e)
      ∙ sym (head_named x (cache_named cs seg))

  free_rest : (x : Option Cache) (cs : List (Option Cache)) → is_named_by seg x ≡ false → has_named seg (x ∷ cs) ≡ false → has_named seg cs ≡ false
  free_rest x cs e free = sym (ap (λ (b : Bool). cond b true (has_named seg cs)) e) ∙ sym (head_named x (cache_named cs seg)) ∙ free

  pub append_named : (cs ds : List (Option Cache)) → has_named seg cs ≡ false → cache_named (cs ++ ds) seg ≡ cache_named ds seg
  append_named [] ds free = refl
  append_named (x ∷ cs) ds free = by (is_named_by seg x) refl (λ e. append_named cs ds (free_rest x cs e free))
    where
      by : (b : Bool) → is_named_by seg x ≡ b → (is_named_by seg x ≡ false → cache_named (cs ++ ds) seg ≡ cache_named ds seg) → cache_named (x ∷ cs ++ ds) seg ≡ cache_named ds seg
      by true e rest = let some : has_named seg (x ∷ cs) ≡ true = head_named x (cache_named cs seg) ∙ ap (λ (b : Bool). cond b true (has_named seg cs)) e in absurd (cc (free, some))
      by false e rest = ap (λ (b : Bool). cond b x (cache_named (cs ++ ds) seg)) e ∙ rest e

  append_has : (cs ds : List (Option Cache)) → has_named seg (cs ++ ds) ≡ cond (has_named seg cs) true (has_named seg ds)
  append_has [] ds = refl
  append_has (x ∷ cs) ds =
      head_named x (cache_named (cs ++ ds) seg)
      ∙ ap (cond (is_named_by seg x) true) (append_has cs ds)
      ∙ by (is_named_by seg x)
      ∙ ap (λ (b : Bool). cond b true (has_named seg ds)) (sym (head_named x (cache_named cs seg)))
    where
      by : (b : Bool) → cond b true (cond (has_named seg cs) true (has_named seg ds)) ≡ cond (cond b true (has_named seg cs)) true (has_named seg ds)
      by true = refl
      by false = refl

  last_named : (n : ℕ) (c : Cache) → cache_named (replicate n None ++ Some c ∷ []) seg ≡ cond (is_named_by seg (Some c)) (Some c) None
  last_named zero c = refl
  last_named (suc n) c = last_named n c

  free_at : (cs : List (Option Cache)) (i : ℕ) → i < length cs → option_and_then (λ x. x) (slice_get cs i) ≡ None → slice_get cs i ≡ Some None
  free_at [] i h e = absurd (omega (arith, h))
  free_at (None ∷ cs) zero h e = refl
  free_at (Some c ∷ cs) zero h e = absurd (cc e)
  free_at (x ∷ cs) (suc i) h e = free_at cs i (omega (arith, h)) e

  -- a new cache that the segment doesn't name
  pub with_other : (cs : List (Option Cache)) (number : ℕ) (c : Cache) → 1 ≤ number → numbered cs number ≡ None → is_named_by seg (Some c) ≡ false → has_named seg (with_cache cs number c) ≡ has_named seg cs
  with_other cs number c some free other = by (nat_le number (length cs)) refl
    where
      there : number ≤ length cs → slice_get cs (number - 1) ≡ Some None
      there h = free_at cs (number - 1) (omega (arith, some, h)) (sym (at_some cs number some) ∙ free)

      by : (b : Bool) → nat_le number (length cs) ≡ b → has_named seg (cond b (slice_set cs (number - 1) (Some c)) (cs ++ (replicate (number - 1 - length cs) None ++ Some c ∷ []))) ≡ has_named seg cs
      by true e = set_named cs (number - 1) None (Some c) (there (grind (arith, nat_tests))) (sym other)
      by false e =
          append_has cs (replicate (number - 1 - length cs) None ++ Some c ∷ [])
          ∙ ap (λ (o : Option Cache). cond (has_named seg cs) true (is_some o)) (last_named (number - 1 - length cs) c ∙ ap (λ (b : Bool). cond b (Some c) None) other)
          ∙ to_self (has_named seg cs)
        where
          to_self : (b : Bool) → cond b true false ≡ b
          to_self true = refl
          to_self false = refl

  set_own : (cs : List (Option Cache)) (i : ℕ) (c : Cache) → i < length cs → has_named seg cs ≡ false → is_named_by seg (Some c) ≡ true → cache_named (slice_set cs i (Some c)) seg ≡ Some c
  set_own [] i c h free own = absurd (omega (arith, h))
  set_own (x ∷ cs) zero c h free own = ap (λ (b : Bool). cond b (Some c) (cache_named cs seg)) own
  set_own (x ∷ cs) (suc i) c h free own = by (is_named_by seg x) refl (λ e. set_own cs i c (omega (arith, h)) (free_rest x cs e free) own)
    where
      by : (b : Bool) → is_named_by seg x ≡ b → (is_named_by seg x ≡ false → cache_named (slice_set cs i (Some c)) seg ≡ Some c) → cache_named (x ∷ slice_set cs i (Some c)) seg ≡ Some c
      by true e rest = let some : has_named seg (x ∷ cs) ≡ true = head_named x (cache_named cs seg) ∙ ap (λ (b : Bool). cond b true (has_named seg cs)) e in absurd (cc (free, some))
      by false e rest = ap (λ (b : Bool). cond b x (cache_named (slice_set cs i (Some c)) seg)) e ∙ rest e

  -- a new cache that the segment names, where it named none
  pub with_own : (cs : List (Option Cache)) (number : ℕ) (c : Cache) → 1 ≤ number → has_named seg cs ≡ false → is_named_by seg (Some c) ≡ true → cache_named (with_cache cs number c) seg ≡ Some c
  with_own cs number c some free own = by (nat_le number (length cs)) refl
    where
      by : (b : Bool) → nat_le number (length cs) ≡ b → cache_named (cond b (slice_set cs (number - 1) (Some c)) (cs ++ (replicate (number - 1 - length cs) None ++ Some c ∷ []))) seg ≡ Some c
      by true e = set_own cs (number - 1) c (let h : number ≤ length cs = grind (arith, nat_tests) in omega (arith, some, h)) free own
      by false e =
          append_named cs (replicate (number - 1 - length cs) None ++ Some c ∷ []) free
          ∙ last_named (number - 1 - length cs) c
          ∙ ap (λ (b : Bool). cond b (Some c) None) own

  -- What is stored

  pub put_own : (o : Option ℕ) (pages : List Page) (stored : Stored) → option_map_or (λ s. s == seg) o false ≡ true → put_stored o pages stored seg ≡ Some pages
  put_own o pages stored e =
      ap (λ (x : Option ℕ). put_stored x pages stored seg) (named_by o seg e)
      ∙ ap (λ (b : Bool). cond b (Some pages) (stored seg)) (eq-eqb seg seg refl)

  pub put_other : (o : Option ℕ) (pages : List Page) (stored : Stored) → option_map_or (λ s. s == seg) o false ≡ false → put_stored o pages stored seg ≡ stored seg
  put_other None pages stored e = refl
  put_other (Some s) pages stored e =
      ap (λ (b : Bool). cond b (Some pages) (stored seg)) other
    where
      other : (seg == s) ≡ false
      other = grind (arith, nat_tests)

  module _ (m : ReferenceMachine) where
    stored_other : (k : ℕ) (c : Cache) (stored : Stored) → is_named_by seg (Some c) ≡ false → stored_at m k (Some c) stored seg ≡ stored seg
    stored_other k c stored e = by (goes m k c)
      where
        by : (b : Bool) → cond b (put_stored c.segment c.pages stored) stored seg ≡ stored seg
        by true = put_other c.segment c.pages stored e
        by false = refl

    used_other : (k : ℕ) (c : Cache) (rest : Option Cache) → is_named_by seg (Some c) ≡ false → is_some (cond (is_named_by seg (used_at m k (Some c))) (used_at m k (Some c)) rest) ≡ is_some rest
    used_other k c rest e = by (goes m k c)
      where
        by : (b : Bool) → is_some (cond (is_named_by seg (cond b None (Some c))) (cond b None (Some c)) rest) ≡ is_some rest
        by true = refl
        by false = ap (λ (b : Bool). is_some (cond b (Some c) rest)) e

    -- the cache of a segment that is gone stands in what is stored for it
    pub gone_stored : (k : ℕ) (cs : List (Option Cache)) (was : Cache) → cache_named cs seg ≡ Some was → has_named seg (used m k cs) ≡ false → stored_from m k cs seg ≡ Some was.pages
    gone_stored k [] was e gone = absurd (cc e)
    gone_stored k (None ∷ cs) was e gone = gone_stored (k + 1) cs was e gone
    gone_stored k (Some c ∷ cs) was e gone =
        by (is_named_by seg (Some c)) refl (goes m k c) refl (λ n.
        gone_stored (k + 1) cs was (sym (ap (λ (b : Bool). cond b (Some c) (cache_named cs seg)) n) ∙ e)
        (sym (used_other k c (cache_named (used m (k + 1) cs) seg) n) ∙ gone))
      where
        rest : Stored
        rest = stored_from m (k + 1) cs

        by : (b : Bool) → is_named_by seg (Some c) ≡ b → (g : Bool) → goes m k c ≡ g → (is_named_by seg (Some c) ≡ false → rest seg ≡ Some was.pages) → stored_at m k (Some c) rest seg ≡ Some was.pages
        by true n true g later =
            let same : c ≡ was = (let s : Some c ≡ Some was = sym (ap (λ (b : Bool). cond b (Some c) (cache_named cs seg)) n) ∙ e in cc s) in
            ap (λ (b : Bool). cond b (put_stored c.segment c.pages rest) rest seg) g
            ∙ put_own c.segment c.pages rest n ∙ ap (λ (x : Cache). Some x.pages) same
        by true n false g later =
            let some : has_named seg (used m k (Some c ∷ cs)) ≡ true =
            ap (λ (b : Bool). is_some (cond (is_named_by seg (cond b None (Some c))) (cond b None (Some c)) (cache_named (used m (k + 1) cs) seg))) g
            ∙ ap (λ (b : Bool). is_some (cond b (Some c) (cache_named (used m (k + 1) cs) seg))) n in
            absurd (cc (gone, some))
        by false n g q later = stored_other k c rest n ∙ later n

    -- where the segment names no cache, none is that goes
    pub none_goes : (k : ℕ) (cs : List (Option Cache)) → has_named seg cs ≡ false → (has_named seg (used m k cs) ≡ false) × (stored_from m k cs seg ≡ m.stored seg)
    none_goes k [] free = (refl, refl)
    none_goes k (None ∷ cs) free = none_goes (k + 1) cs free
    none_goes k (Some c ∷ cs) free = by (is_named_by seg (Some c)) refl (λ n. none_goes (k + 1) cs (free_rest (Some c) cs n free))
      where
        by : (b : Bool) → is_named_by seg (Some c) ≡ b → (is_named_by seg (Some c) ≡ false → (has_named seg (used m (k + 1) cs) ≡ false) × (stored_from m (k + 1) cs seg ≡ m.stored seg)) → (has_named seg (used m k (Some c ∷ cs)) ≡ false) × (stored_from m k (Some c ∷ cs) seg ≡ m.stored seg)
        by true n later = let some : has_named seg (Some c ∷ cs) ≡ true = ap (λ (b : Bool). is_some (cond b (Some c) (cache_named cs seg))) n in absurd (cc (free, some))
        by false n later = (
          used_other k c (cache_named (used m (k + 1) cs) seg) n ∙ (later n).0,
          stored_other k c (stored_from m (k + 1) cs) n ∙ (later n).1,
        )
