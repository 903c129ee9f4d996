-- The first that passes a test, and the openings of a segment.
use Rattle.std.proofs.Common.{◌≡◌, ◌==◌, ℕ, suc, ◌+◌, ◌-◌, ◌<◌, ◌≤◌, Bool, true, false, cond, List, [], ◌∷◌, length, Some, None, refl, sym, ap, ◌∙◌, arith}
use Rattle.std.specs.Prelude.{slice_get, slice_index_or, slice_set}
use Rattle.std.specs.List.{position_from}
use Rattle.std.proofs.lemmas.Option.{slice_get-get_or}
use Rattle.interface_callers.proofs.Words.{SegId}
use Rattle.seg_manager.specs.Inner.{Closes, first_of}
use Rattle.seg_manager.specs.Seen.{openings_in}
use Rattle.seg_manager.specs.declared.tables.Named.{Named}
use Rattle.seg_manager.proofs.Leaves.OpeningTakenBack.{reopened}

position_below : {A : Type 0} (test : A → Bool) (k : ℕ) (xs : List A) (i : ℕ) → position_from test k xs ≡ Some i → i < k + length xs
position_below test k [] i e = absurd (cc e)
position_below test k (x ∷ xs) i e = by (test x) e (position_below test (k + 1) xs i)
  where
    by : (b : Bool) → cond b (Some k) (position_from test (k + 1) xs) ≡ Some i → (position_from test (k + 1) xs ≡ Some i → i < k + 1 + length xs) → i < k + suc (length xs)
    by true e rest = let same : k ≡ i = cc e in omega (arith, same)
    by false e rest = omega (arith, rest e)

pub place_below : {A : Type 0} (test : A → Bool) (ys xs : List A) (i : ℕ) → ys ≡ xs → Some i ≡ position_from test 0 ys → i < length xs
place_below test ys xs i same e = let less : i < 0 + length xs = position_below test 0 xs i (ap (position_from test 0) (sym same) ∙ sym e) in omega (arith, less)

pub item_at : {A : Type 0} (xs : List A) (i : ℕ) (x : A) → i < length xs → x ≡ slice_index_or xs i x → slice_get xs i ≡ Some x
item_at xs i x less e = slice_get-get_or xs i x less ∙ ap (λ y. Some y) (sym e)

none_open : (s k : ℕ) (cs : List Named) → position_from (first_of s) k cs ≡ None → openings_in cs s ≡ 0
none_open s k [] e = refl
none_open s k (c ∷ cs) e = by (c.seg.0 == s) e (none_open s (k + 1) cs)
  where
    by : (b : Bool) → cond b (Some k) (position_from (first_of s) (k + 1) cs) ≡ None → (position_from (first_of s) (k + 1) cs ≡ None → openings_in cs s ≡ 0) → cond b c.openings (openings_in cs s) ≡ 0
    by true e rest = absurd (cc e)
    by false e rest = rest e

-- no opening is left
pub not_noted : (ys cs : List Named) (s : ℕ) → ys ≡ cs → None ≡ position_from (first_of s) 0 ys → openings_in cs s ≡ 0
not_noted ys cs s same e = none_open s 0 cs (ap (position_from (first_of s) 0) (sym same) ∙ sym e)

module _ (ys cs : List Named) (s : SegId) (place : ℕ) (d : Named) (same : ys ≡ cs) (first : Some place ≡ position_from (first_of s.0) 0 ys) (is : d ≡ slice_index_or cs place d) where
  found : position_from (first_of s.0) 0 cs ≡ Some (0 + place)
  found = ap (position_from (first_of s.0) 0) (sym same) ∙ sym first ∙ ap (λ (i : ℕ). Some i) (let e : place ≡ 0 + place = omega arith in e)

  there : slice_get cs place ≡ Some d
  there = item_at cs place d (place_below (first_of s.0) ys cs place same first) is

  pub none_left : d.openings ≡ 0 → openings_in cs s.0 ≡ 0
  none_left none = (reopened s.0 0 0 cs place d found there).was ∙ none

  pub closes : (e : Named) → e ≡ slice_index_or cs place e → 1 ≤ d.openings → Closes cs s d.cache (slice_set cs place (record e { openings = d.openings - 1 }))
  closes e at some = record {
    place = place;
    named = d;
    first = first ∙ ap (position_from (first_of s.0) 0) same;
    there = there;
    some = some;
    is = refl;
    then_is = ap (λ (x : Named). slice_set cs place (record x { openings = d.openings - 1 }))
        (let both : Some e ≡ Some d = sym (item_at cs place e (place_below (first_of s.0) ys cs place same first) at) ∙ there in let s : e ≡ d = cc both in s);
  }
