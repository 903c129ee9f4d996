-- A stretch that went.
use Rattle.std.proofs.Common.{◌≡◌, ℕ, zero, suc, ◌+◌, ◌<◌, ◌≤◌, cond, List, [], ◌∷◌, length, get_or, None, sym, ◌∙◌, inl, inr, arith}
use Rattle.std.specs.List.{remove}
use Rattle.std.proofs.lemmas.Bool.{cases_Bool}
use Rattle.stretches.specs.declared.says.Says.{Ghosts}
use Rattle.stretches.specs.declared.stretch.Stretch.{Stretch}
use Rattle.stretches.specs.Stretch.{is_in}
use Rattle.stretches.specs.Stretches.{AreInOrder, number_count, said}
use Rattle.stretches.proofs.Reading.Numbers.{chosen, high, low, out_behind, passed}
use Rattle.stretches.proofs.Reading.Order.{rises}
use Rattle.stretches.proofs.Reading.Sayings.{said_below, same_rest, skip}

module _ {V : Type 0} where
  pub count_removed : (rs : List (Stretch V)) (at : ℕ) (d : Stretch V) → at < length rs → number_count (remove rs at) + (get_or rs at d).count ≡ number_count rs
  count_removed [] at d less = absurd (omega arith)
  count_removed (x ∷ rs) zero d less = omega arith
  count_removed (x ∷ rs) (suc at) d less = omega (arith, count_removed rs at d (omega arith))

module _ {V : Type 0} (S : Ghosts V) where
  pub order_removed : (from : ℕ) (rs : List (Stretch V)) (at : ℕ) → AreInOrder S from rs → at < length rs → AreInOrder S from (remove rs at)
  order_removed from [] at order less = absurd (omega arith)
  order_removed from (x ∷ rs) zero order less = wider from (x.first + x.count) rs (omega (arith, order.0)) order.2
    where
      wider : (from to : ℕ) (rs : List (Stretch V)) → from ≤ to → AreInOrder S to rs → AreInOrder S from rs
      wider from to [] le order = tt
      wider from to (y ∷ rs) le order = (omega (arith, order.0), order.1, order.2)
  order_removed from (x ∷ rs) (suc at) order less = (order.0, order.1, order_removed (x.first + x.count) rs at order.2 (omega arith))

  pub said_removed : (from : ℕ) (rs : List (Stretch V)) (at : ℕ) (d : Stretch V) → AreInOrder S from rs → at < length rs → (n : ℕ) → said S (remove rs at) n ≡ cond (is_in (get_or rs at d) n) None (said S rs n)
  said_removed from [] at d order less n = absurd (omega arith)
  said_removed from (x ∷ rs) zero d order less n = elim (cases_Bool (is_in x n)) [
    | inl h ↦ said_below S (x.first + x.count) rs order.2 n (high x n h) ∙ sym (chosen (is_in x n) h _ _)
    | inr h ↦ sym (passed (is_in x n) h _ _ ∙ skip S x rs n h)
  ]
  said_removed from (x ∷ rs) (suc at) d order less n =
      let rest = said_removed (x.first + x.count) rs at d order.2 (omega arith) n in
      let r = get_or rs at d in
      elim (cases_Bool (is_in r n)) [
        | inl h ↦
            let out = out_behind x n (omega (arith, rises S (x.first + x.count) rs order.2 at d (omega arith), low r n h)) in
            skip S x (remove rs at) n out ∙ rest ∙ chosen (is_in r n) h _ _ ∙ sym (chosen (is_in r n) h _ _)
        | inr h ↦ same_rest S x rs (remove rs at) n (rest ∙ passed (is_in r n) h _ _) ∙ sym (passed (is_in r n) h _ _)
      ]
