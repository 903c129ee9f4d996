-- The cache that a segment names, and pushes where no segment is told.
use Rattle.std.proofs.Common.{◌≡◌, ◌==◌, ℕ, suc, Bool, true, false, cond, List, [], ◌∷◌, map, Option, Some, None, refl, sym, ap, ◌∙◌}
use Rattle.std.specs.Prelude.{is_some, option_map, slice_get}
use Rattle.std.specs.Option.{option_map_or}
use Rattle.std.proofs.lemmas.Bool.{eqb-true}
use Rattle.interface_callers.proofs.Words.{Cache, Machine, blank_cache, cache_named, cache_of, is_named_by, segments_after}
use Rattle.interface_callers.proofs.Lists.{number_behind}

pub named_by : (o : Option ℕ) (seg : ℕ) → option_map_or (λ s. s == seg) o false ≡ true → o ≡ Some seg
named_by None seg e = absurd (cc e)
named_by (Some s) seg e = ap (λ (n : ℕ). Some n) (eqb-true s seg e)

-- The cache that a segment names has a number.
pub record HasNumber (seg : ℕ) (cs : List (Option Cache)) (c : Cache) : Type 0 where
  pub place : ℕ
  pub there : slice_get cs place ≡ Some (Some c)
  pub named : c.segment ≡ Some seg

here_or_behind : (seg : ℕ) (o : Option Cache) (cs : List (Option Cache)) (c : Cache) (b : Bool) → is_named_by seg o ≡ b → cond b o (cache_named cs seg) ≡ Some c → (cache_named cs seg ≡ Some c → HasNumber seg cs c) → HasNumber seg (o ∷ cs) c
here_or_behind seg o cs c true named e behind = record {
  place = 0;
  there = ap (λ (x : Option Cache). Some x) e;
  named = named_by c.segment seg (ap (is_named_by seg) (sym e) ∙ named);
}
here_or_behind seg o cs c false named e behind = let r = behind e in record { place = suc r.place; there = r.there; named = r.named }

pub has_number : (seg : ℕ) (cs : List (Option Cache)) (c : Cache) → cache_named cs seg ≡ Some c → HasNumber seg cs c
has_number seg [] c e = absurd (cc e)
has_number seg (o ∷ cs) c e = here_or_behind seg o cs c (is_named_by seg o) refl e (has_number seg cs c)

pub named_cache : (m : Machine) (seg : ℕ) (c : Cache) → cache_named m.caches seg ≡ Some c → (n : ℕ) × (cache_of m n ≡ Some c) × (c.segment ≡ Some seg)
named_cache m seg c e = let at = has_number seg m.caches c e in (suc at.place, number_behind m.caches at.place (Some c) at.there, at.named)

-- bytes tell nothing of it
pub named_blank : (seg : ℕ) (cs : List (Option Cache)) → is_some (cache_named (map (option_map blank_cache) cs) seg) ≡ is_some (cache_named cs seg)
named_blank seg [] = refl
named_blank seg (None ∷ cs) = named_blank seg cs
named_blank seg (Some c ∷ cs) = by (is_named_by seg (Some c)) (named_blank seg cs)
  where
    by : (b : Bool) → is_some (cache_named (map (option_map blank_cache) cs) seg) ≡ is_some (cache_named cs seg)
        → is_some (cond b (Some (blank_cache c)) (cache_named (map (option_map blank_cache) cs) seg)) ≡ is_some (cond b (Some c) (cache_named cs seg))
    by true e = refl
    by false e = e

-- where nothing is told, nothing is after pushes
pub after_none : (m : Machine) (pushes : List (ℕ × ℕ)) → segments_after m pushes None ≡ None
after_none m [] = refl
after_none m (p ∷ ps) = after_none m ps
