-- Another stretch of the same numbers in the place of one.
use Rattle.std.proofs.Common.{◌≡◌, ℕ, zero, suc, ◌+◌, ◌-◌, cond, eqb, List, [], ◌∷◌, get_or, set, Some, sym, ap, subst, ◌∙◌, inl, inr, arith}
use Rattle.std.proofs.lemmas.Bool.{cases_Bool, cases_eq, eq-eqb, ne_eqb}
use Rattle.stretches.specs.declared.says.Says.{Ghosts}
use Rattle.stretches.specs.declared.stretch.Stretch.{Stretch}
use Rattle.stretches.specs.Changes.{SayAlso, SayOfOne}
use Rattle.stretches.specs.GoingOn.{GoesOn}
use Rattle.stretches.specs.Places.{IsPart}
use Rattle.stretches.specs.Stretch.{IsFit, is_in, single, value_at}
use Rattle.stretches.specs.Stretches.{AreInOrder, number_count, said}
use Rattle.stretches.proofs.Reading.Numbers.{chosen, low, out_behind, out_single, passed, same_in, within}
use Rattle.stretches.proofs.Reading.Order.{rises}
use Rattle.stretches.proofs.Reading.Sayings.{here, same_rest, skip}

module _ {V : Type 0} where
  part_rest : (x : Stretch V) (rs : List (Stretch V)) (first count at : ℕ) → IsPart (x ∷ rs) first count (suc at) → IsPart rs first count at
  part_rest x rs first count at part = record { within = omega (arith, part.within); first = part.first; count = part.count }

  pub count_replaced : (rs : List (Stretch V)) (at : ℕ) (q : Stretch V) → IsPart rs q.first q.count at → number_count (set rs at q) ≡ number_count rs
  count_replaced [] at q part = absurd (omega (arith, part.within))
  count_replaced (x ∷ rs) zero q part = omega (arith, part.count x)
  count_replaced (x ∷ rs) (suc at) q part = ap (λ (k : ℕ). x.count + k) (count_replaced rs at q (part_rest x rs q.first q.count at part))

module _ {V : Type 0} (S : Ghosts V) where
  pub order_replaced : (from : ℕ) (rs : List (Stretch V)) (at : ℕ) (q : Stretch V) → AreInOrder S from rs → IsPart rs q.first q.count at → IsFit S q → AreInOrder S from (set rs at q)
  order_replaced from [] at q order part fit = absurd (omega (arith, part.within))
  order_replaced from (x ∷ rs) zero q order part fit =
      let start : x.first ≡ q.first = part.first x in
      let end : x.first + x.count ≡ q.first + q.count = omega (arith, part.count x) in
      (omega (arith, order.0), fit, subst (λ (k : ℕ). AreInOrder S k rs) end order.2)
  order_replaced from (x ∷ rs) (suc at) q order part fit = (order.0, order.1, order_replaced (x.first + x.count) rs at q order.2 (part_rest x rs q.first q.count at part) fit)

  pub said_replaced : (from : ℕ) (rs : List (Stretch V)) (at : ℕ) (q : Stretch V) → AreInOrder S from rs → IsPart rs q.first q.count at → (n : ℕ) → said S (set rs at q) n ≡ cond (is_in q n) (Some (value_at S q n)) (said S rs n)
  said_replaced from [] at q order part n = absurd (omega (arith, part.within))
  said_replaced from (x ∷ rs) zero q order part n =
      let alike = same_in x q (part.first x) (part.count x) n in
      elim (cases_Bool (is_in q n)) [
        | inl h ↦ here S q rs n h ∙ sym (chosen (is_in q n) h _ _)
        | inr h ↦ skip S q rs n h ∙ sym (skip S x rs n (alike ∙ h)) ∙ sym (passed (is_in q n) h _ _)
      ]
  said_replaced from (x ∷ rs) (suc at) q order part n =
      let rest = said_replaced (x.first + x.count) rs at q order.2 (part_rest x rs q.first q.count at part) n in
      let start : (get_or rs at x).first ≡ q.first = part.first x in
      elim (cases_Bool (is_in q n)) [
        | inl h ↦
            let out = out_behind x n (omega (arith, low q n h, rises S (x.first + x.count) rs order.2 at x (omega (arith, part.within)))) in
            skip S x (set rs at q) n out ∙ rest ∙ chosen (is_in q n) h _ _ ∙ sym (chosen (is_in q n) h _ _)
        | inr h ↦ same_rest S x rs (set rs at q) n (rest ∙ passed (is_in q n) h _ _) ∙ sym (passed (is_in q n) h _ _)
      ]

module _ {V : Type 0} (S : Ghosts V) (laws : GoesOn S.after S.lasts) where
  -- a stretch of one number says of it what it was made to
  pub say_one : (rs others : List (Stretch V)) (m : ℕ) (v : V) → SayAlso S rs (single m v) others → SayOfOne S rs m v others
  say_one rs others m v h n = h n ∙ elim (cases_eq n m) [
    | inl same ↦
        let none_further : n - m ≡ 0 = omega arith in
        chosen (is_in (single m v) n) (within (single m v) n (omega arith) (omega arith)) _ _
        ∙ ap (λ (w : V). Some w) (ap (S.after v) none_further ∙ laws.starts v) ∙ sym (chosen (eqb n m) (eq-eqb n m same) _ _)
    | inr other ↦ passed (is_in (single m v) n) (out_single m v n other) _ _ ∙ sym (passed (eqb n m) (ne_eqb n m other) _ _)
  ]
