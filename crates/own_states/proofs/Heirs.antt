-- Absent numbers that get the states of others.
use Rattle.std.proofs.Common.{◌≡◌, ℕ, zero, suc, ◌+◌, ◌<◌, ◌≤◌, add-zero, add-suc, Bool, true, false, cond, Option, Some, None, refl, sym, ap, ◌∙◌, arith}
use Rattle.std.proofs.lemmas.Bool.{cond-true, cond-false}
use Rattle.std.specs.Ordering.{nat_cmp}
use Rattle.std.specs.FinMap.{FinMap}
use Rattle.std.specs.FinMap as map
use Rattle.own_states.specs.declared.own.Own.{Own}
use Rattle.own_states.specs.declared.own.Own.TheVariants.{Plain as PlainOwn}
use Rattle.own_states.specs.declared.own.Plain.{Plain}
use Rattle.own_states.specs.Heirs.{HavePlain, given, heir, inherited, is_absent, is_gap}
use Rattle.own_states.specs.Ranges.{with_plain}
use Rattle.own_states.proofs.Ranges.{behind_with, get_with, in_range}

-- ranges one behind the other are one
pub inherited_more : (m : FinMap nat_cmp Own) (to from a b : ℕ) → inherited (inherited m to from a) (to + a) (from + a) b ≡ inherited m to from (a + b)
inherited_more m to from a zero = ap (inherited m to from) (sym (add-zero a))
inherited_more m to from a (suc b) =
    let far_to : to + a + b ≡ to + (a + b) = omega arith in
    let far_from : from + a + b ≡ from + (a + b) = omega arith in
    (λ i. heir (inherited_more m to from a b i) (far_to i) (far_from i)) ∙ ap (inherited m to from) (sym (add-suc a b))

-- a range of one
pub inherited_one : (m : FinMap nat_cmp Own) (to from : ℕ) → inherited m to from 1 ≡ heir m to from
inherited_one m to from = λ i. heir m (add-zero to i) (add-zero from i)

-- nothing comes of absent numbers
heir_none : (m : FinMap nat_cmp Own) (to from : ℕ) (s : Own) → map.get m from ≡ Some s → is_absent s ≡ true → heir m to from ≡ m
heir_none m to from s is none = by_gap (is_gap (map.get m to)) where
  by_gap : (b : Bool) → cond b (given m to (map.get m from)) m ≡ m
  by_gap true = ap (given m to) is ∙ cond-true _ _ _ none
  by_gap false = refl

pub inherited_none : (m : FinMap nat_cmp Own) (to from k : ℕ) (v : Plain) → is_absent (PlainOwn v) ≡ true → HavePlain m from k v → inherited m to from k ≡ m
inherited_none m to from zero v none all = refl
inherited_none m to from (suc k) v none all =
    ap (λ (x : FinMap nat_cmp Own). heir x (to + k) (from + k)) (inherited_none m to from k v none (λ j h. all j (omega (arith, h))))
    ∙ heir_none m (to + k) (from + k) (PlainOwn v) (all k (omega arith)) none

-- nor to numbers that have a page
pub inherited_held : (m : FinMap nat_cmp Own) (to from k : ℕ) (v : Plain) → is_absent (PlainOwn v) ≡ false → HavePlain m to k v → inherited m to from k ≡ m
inherited_held m to from zero v held all = refl
inherited_held m to from (suc k) v held all =
    let gap : is_gap (map.get m (to + k)) ≡ false = ap is_gap (all k (omega arith)) ∙ held in
    ap (λ (x : FinMap nat_cmp Own). heir x (to + k) (from + k)) (inherited_held m to from k v held (λ j h. all j (omega (arith, h))))
    ∙ cond-false _ _ _ gap

-- absent numbers get one state, where all have it that they get theirs from
pub inherited_all : (m : FinMap nat_cmp Own) (to from k : ℕ) (v w : Plain) → is_absent (PlainOwn v) ≡ false → is_absent (PlainOwn w) ≡ true → HavePlain m from k v → HavePlain m to k w → inherited m to from k ≡ with_plain m to k v
inherited_all m to from zero v w page none all gaps = refl
inherited_all m to from (suc k) v w page none all gaps =
    let before = with_plain m to k v in
    let gap : is_gap (map.get before (to + k)) ≡ true = ap is_gap (behind_with m to k (PlainOwn v) (to + k) (omega arith) ∙ gaps k (omega arith)) ∙ none in
    let there : map.get before (from + k) ≡ Some (PlainOwn v) = get_with m to k (PlainOwn v) (from + k) ∙ by_in (in_range to k (from + k)) (all k (omega arith)) in
    ap (λ (x : FinMap nat_cmp Own). heir x (to + k) (from + k)) (inherited_all m to from k v w page none (λ j h. all j (omega (arith, h))) (λ j h. gaps j (omega (arith, h))))
    ∙ cond-true _ _ _ gap ∙ ap (given before (to + k)) there ∙ cond-false _ _ _ page
  where
    by_in : (b : Bool) → map.get m (from + k) ≡ Some (PlainOwn v) → cond b (Some (PlainOwn v)) (map.get m (from + k)) ≡ Some (PlainOwn v)
    by_in true e = refl
    by_in false e = e
