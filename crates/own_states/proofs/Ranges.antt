-- Maps that differ in numbers in a row.
use Rattle.std.proofs.Common.{◌≡◌, ◌⊎◌, ℕ, zero, suc, ◌+◌, ◌-◌, ◌<◌, ◌≤◌, add-zero, add-suc, Bool, true, false, cond, Option, Some, None, refl, sym, ap, ◌∙◌, inl, inr, arith}
use Rattle.std.specs.Prelude.{nat_le, nat_lt, ◌&&◌}
use Rattle.std.proofs.lemmas.Bool.{cases_eq, cases_lt, cond-true, cond-false}
use Rattle.std.proofs.lemmas.Bool.Decides.{nat_tests}
use Rattle.std.specs.Ordering.{nat_cmp}
use Rattle.std.specs.Cmp.{nat_cmp_total}
use Rattle.std.specs.FinMap.{FinMap, get-insert}
use Rattle.std.specs.FinMap as map
use Rattle.stretches.specs.declared.stretch.Stretch.{Stretch}
use Rattle.mixed_map.specs.Mixed.{with_stretch, without_range}
use Rattle.mixed_map.proofs.Maps.{same, tied, untied}
use Rattle.mixed_map.proofs.Telling as telling
use Rattle.own_states.specs.declared.own.Own.{Own}
use Rattle.own_states.specs.declared.own.Own.TheVariants.{Plain as PlainOwn}
use Rattle.own_states.specs.declared.own.Plain.{Plain}
use Rattle.own_states.specs.declared.own.Plain.TheVariants.{Absent}
use Rattle.own_states.specs.Ranges.{with_plain, with_range}
use Rattle.own_states.specs.Saying.{plain_says}

-- the number is one of so many from one on
abbrev pub in_range : ℕ → ℕ → ℕ → Bool
in_range first count q = nat_le first q && nat_lt q (first + count)

-- a number is in a range or beside it
pub by_range : (first count q : ℕ) → ((first ≤ q) × (q < first + count) × (in_range first count q ≡ true)) ⊎ (((q < first) ⊎ (first + count ≤ q)) × (in_range first count q ≡ false))
by_range first count q = elim (cases_lt q first) [
  | inl before ↦ inr (inl before, grind (arith, nat_tests))
  | inr from ↦ elim (cases_lt q (first + count)) [
    | inl within ↦ inl (from, within, grind (arith, nat_tests))
    | inr behind ↦ inr (inr behind, grind (arith, nat_tests))
  ]
]

-- the map has this for the numbers of a range, and for the others what another map has
abbrev pub HasFor : FinMap nat_cmp Own → FinMap nat_cmp Own → ℕ → ℕ → Option Own → Type 0
HasFor new m first count o = (q : ℕ) → map.get new q ≡ cond (in_range first count q) o (map.get m q)

pub get_with : (m : FinMap nat_cmp Own) (first k : ℕ) (s : Own) → HasFor (with_range m first k s) m first k (Some s)
get_with m first zero s q = (let none : in_range first 0 q ≡ false = grind (arith, nat_tests) in sym (cond-false _ _ _ none))
get_with m first (suc k) s q = get-insert nat_cmp_total (with_range m first k s) (first + k) s q ∙ elim (cases_eq q (first + k)) [
  | inl at ↦
      let inside : in_range first (suc k) q ≡ true = grind (arith, nat_tests) in
      cond-true _ _ _ (tied q (first + k) at) ∙ sym (cond-true _ _ _ inside)
  | inr other ↦
      let alike : in_range first k q ≡ in_range first (suc k) q = grind (arith, nat_tests) in
      cond-false _ _ _ (untied q (first + k) other) ∙ get_with m first k s q ∙ ap (λ (b : Bool). cond b (Some s) (map.get m q)) alike
]

pub is_with : (new m : FinMap nat_cmp Own) (first k : ℕ) (s : Own) → HasFor new m first k (Some s) → new ≡ with_range m first k s
is_with new m first k s has = same _ _ (λ q. has q ∙ sym (get_with m first k s q))

-- numbers in a row, of a state that doesn't matter
abbrev numbers : ℕ → ℕ → Stretch Plain
numbers first k = record { first = first; count = k; value = Absent }

pub get_less : (m : FinMap nat_cmp Own) (first k : ℕ) → HasFor (without_range m first k) m first k None
get_less m first k q = telling.gone m (numbers first k) q

pub is_less : (new m : FinMap nat_cmp Own) (first k : ℕ) → HasFor new m first k None → new ≡ without_range m first k
is_less new m first k has = telling.is_without m new (numbers first k) has

-- a number of a range that went
pub gone_from : (m : FinMap nat_cmp Own) (first count k : ℕ) → k < count → map.get (without_range m first count) (first + k) ≡ None
gone_from m first count k less = (let inside : in_range first count (first + k) ≡ true = grind (arith, nat_tests) in get_less m first count (first + k) ∙ cond-true _ _ _ inside)

-- a number behind a range
pub behind_with : (m : FinMap nat_cmp Own) (first k : ℕ) (s : Own) (q : ℕ) → first + k ≤ q → map.get (with_range m first k s) q ≡ map.get m q
behind_with m first k s q h = (let out : in_range first k q ≡ false = grind (arith, nat_tests) in get_with m first k s q ∙ cond-false _ _ _ out)

-- a range of one number
pub one_with : (m : FinMap nat_cmp Own) (n : ℕ) (s : Own) → with_range m n 1 s ≡ map.insert m n s
one_with m n s = ap (λ (k : ℕ). map.insert m k s) (add-zero n)

-- ranges one behind the other are one
pub more_with : (m : FinMap nat_cmp Own) (first a b : ℕ) (s : Own) → with_range (with_range m first a s) (first + a) b s ≡ with_range m first (a + b) s
more_with m first a zero s = ap (λ (k : ℕ). with_range m first k s) (sym (add-zero a))
more_with m first a (suc b) s =
    let far : first + a + b ≡ first + (a + b) = omega arith in
    (λ i. map.insert (more_with m first a b s i) (far i) s) ∙ ap (λ (k : ℕ). with_range m first k s) (sym (add-suc a b))

-- a range that goes comes back
pub refilled : (m : FinMap nat_cmp Own) (first k : ℕ) (s : Own) → with_range (without_range m first k) first k s ≡ with_range m first k s
refilled m first k s = is_with _ m first k s (λ q. get_with (without_range m first k) first k s q ∙ by_in q (in_range first k q) (get_less m first k q)) where
  by_in : (q : ℕ) (b : Bool) {o : Option Own} → o ≡ cond b None (map.get m q) → cond b (Some s) o ≡ cond b (Some s) (map.get m q)
  by_in q true e = refl
  by_in q false e = e

-- what a stretch of plain states tells
pub told_plain : (m : FinMap nat_cmp Own) (r : Stretch Plain) → with_stretch plain_says PlainOwn m r ≡ with_plain m r.first r.count r.value
told_plain m r = is_with _ m r.first r.count (PlainOwn r.value) (λ q. telling.get_with plain_says PlainOwn m r q)
