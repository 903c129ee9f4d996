-- The cache that a segment names.
use Rattle.std.proofs.Common.{◌≡◌, ◌==◌, ℕ, zero, suc, ◌-◌, Bool, true, false, cond, List, [], ◌∷◌, Option, Some, None, refl, ap, ◌∙◌, arith}
use Rattle.std.specs.Prelude.{is_some, option_and_then, slice_get}
use Rattle.std.specs.Option.{option_map_or}
use Rattle.std.proofs.lemmas.Bool.Decides.{nat_tests}
use Rattle.vm_model.specs.Machine.{Machine, Cache, cache_of, cache_named, is_named_by, segment_of}
use Rattle.vm_model.specs.Answering.{is_named}
use Rattle.vm_model.proofs.Parts.Lists.{numbered_place}
use Rattle.vm_model.proofs.Parts.ListParts.{at_some}

same_segment : (o : Option ℕ) (seg : ℕ) → option_map_or (λ s. s == seg) o false ≡ true → o ≡ Some seg
same_segment None seg e = absurd (cc e)
same_segment (Some s) seg e = let same : s ≡ seg = grind (arith, nat_tests) in ap Some same

by_segment : (c : Cache) (seg : ℕ) → c.segment ≡ Some seg → is_named_by seg (Some c) ≡ true
by_segment c seg e = ap (λ (o : Option ℕ). option_map_or (λ s. s == seg) o false) e ∙ (let same : (seg == seg) ≡ true = grind (arith, nat_tests) in same)

-- a cache with a segment is named
pub segment_names : (m : Machine) (n seg : ℕ) → segment_of m n ≡ Some seg → is_named m n ≡ true
segment_names m n seg e = go (cache_of m n) e
  where
    go : (o : Option Cache) → option_and_then (λ (c : Cache). c.segment) o ≡ Some seg → option_map_or (λ (c : Cache). is_some c.segment) o false ≡ true
    go None e = absurd (cc e)
    go (Some c) e = ap is_some e

-- the cache itself, where a segment names it
pub segment_cache : (m : Machine) (n seg : ℕ) → segment_of m n ≡ Some seg → (c : Cache) × (cache_of m n ≡ Some c) × (c.segment ≡ Some seg)
segment_cache m n seg e = go (cache_of m n) refl e
  where
    go : (o : Option Cache) → cache_of m n ≡ o → option_and_then (λ (c : Cache). c.segment) o ≡ Some seg → (c : Cache) × (cache_of m n ≡ Some c) × (c.segment ≡ Some seg)
    go None there e = absurd (cc e)
    go (Some c) there e = (c, there, e)

module _ (seg : ℕ) where
  found_first : (cs : List (Option Cache)) (i : ℕ) (c : Cache) → slice_get cs i ≡ Some (Some c) → is_named_by seg (Some c) ≡ true
      → ((j : ℕ) (d : Cache) → slice_get cs j ≡ Some (Some d) → is_named_by seg (Some d) ≡ true → j ≡ i) → cache_named cs seg ≡ Some c
  found_first [] i c there named only = absurd (cc there)
  found_first (o ∷ cs) zero c there named only =
      let is : o ≡ Some c = cc there in
      ap (λ (x : Option Cache). cond (is_named_by seg x) x (cache_named cs seg)) is ∙ ap (λ (b : Bool). cond b (Some c) (cache_named cs seg)) named
  found_first (o ∷ cs) (suc i) c there named only = at o (is_named_by seg o) refl refl (found_first cs i c there named (λ j d e n. let s : suc j ≡ suc i = only (suc j) d e n in omega (arith, s)))
    where
      at : (x : Option Cache) (b : Bool) → o ≡ x → is_named_by seg x ≡ b → cache_named cs seg ≡ Some c → cond (is_named_by seg o) o (cache_named cs seg) ≡ Some c
      at x false e q rest = ap (λ (b : Bool). cond b o (cache_named cs seg)) (ap (is_named_by seg) e ∙ q) ∙ rest
      at None true e q rest = absurd (cc q)
      at (Some d) true e q rest = let s : zero ≡ suc i = only zero d (ap Some e) q in absurd (omega (arith, s))

  free_all : (cs : List (Option Cache)) (i : ℕ) (c : Cache) → slice_get cs i ≡ Some (Some c) → is_named_by seg (Some c) ≡ true → is_some (cache_named cs seg) ≡ true
  free_all [] i c there named = absurd (cc there)
  free_all (o ∷ cs) zero c there named =
      let is : o ≡ Some c = cc there in
      ap (λ (x : Option Cache). is_some (cond (is_named_by seg x) x (cache_named cs seg))) is ∙ ap (λ (b : Bool). is_some (cond b (Some c) (cache_named cs seg))) named
  free_all (o ∷ cs) (suc i) c there named = at o (is_named_by seg o) refl (free_all cs i c there named)
    where
      at : (x : Option Cache) (b : Bool) → is_named_by seg x ≡ b → is_some (cache_named cs seg) ≡ true → is_some (cond b x (cache_named cs seg)) ≡ true
      at x false q rest = rest
      at None true q rest = absurd (cc q)
      at (Some d) true q rest = refl

-- the only cache that a segment names is the one that is found
pub only_named : (m : Machine) (n seg : ℕ) (c : Cache) → cache_of m n ≡ Some c → c.segment ≡ Some seg → ((k : ℕ) → segment_of m k ≡ Some seg → k ≡ n) → cache_named m.caches seg ≡ Some c
only_named m n seg c there named only =
    let at = numbered_place m.caches n c there in
    found_first seg m.caches (n - 1) c at.1 (by_segment c seg named) (λ j d e q.
    let is : cache_of m (suc j) ≡ Some d = at_some m.caches (suc j) (omega arith) ∙ ap (option_and_then (λ x. x)) (ap (slice_get m.caches) (let s : suc j - 1 ≡ j = omega arith in s) ∙ e) in
    let k : suc j ≡ n = only (suc j) (ap (option_and_then (λ (c : Cache). c.segment)) is ∙ same_segment d.segment seg q) in
    omega (arith, k))

-- a segment that names no live cache is that of none
pub names_none : (m : Machine) (n seg : ℕ) → is_some (cache_named m.caches seg) ≡ false → segment_of m n ≡ Some seg → ⊥
names_none m n seg free e =
    let c = segment_cache m n seg e in
    let at = numbered_place m.caches n c.0 c.1 in
    let some : is_some (cache_named m.caches seg) ≡ true = free_all seg m.caches (n - 1) c.0 at.1 (by_segment c.0 seg c.2) in
    cc (free, some)
