-- Two stretches of a list in one.
use Rattle.std.proofs.Common.{◌≡◌, ℕ, zero, suc, ◌+◌, ◌<◌, ◌^◌, List, [], ◌∷◌, length, get_or, set, sym, ap, subst, ◌∙◌, arith}
use Rattle.std.specs.List.{remove}
use Rattle.stretches.specs.declared.says.Says.{Ghosts}
use Rattle.stretches.specs.declared.stretch.Stretch.{Stretch}
use Rattle.stretches.specs.GoingOn.{GoesOn}
use Rattle.stretches.specs.Stretch.{Continues, shifted}
use Rattle.stretches.specs.Stretches.{AreInOrder, number_count, said}
use Rattle.stretches.proofs.Reading.Sayings.{same_rest}
use Rattle.stretches.proofs.Changes.Parts.{both, both_say, fit_both}

module _ {V : Type 0} where
  -- the list with one stretch in the place of two
  abbrev pub merged : List (Stretch V) → ℕ → Stretch V → Stretch V → List (Stretch V)
  merged rs at a b = remove (set rs at (both a b)) (suc at)

  pub count_merged : (rs : List (Stretch V)) (at : ℕ) (a b : Stretch V) → suc at < length rs → get_or rs at a ≡ a → get_or rs (suc at) b ≡ b → number_count (merged rs at a b) ≡ number_count rs
  count_merged [] at a b less first second = absurd (omega arith)
  count_merged (x ∷ []) at a b less first second = absurd (omega arith)
  count_merged (x ∷ y ∷ rs) zero a b less first second =
      let e : x.count ≡ a.count = ap (λ (q : Stretch V). q.count) first in
      let f : y.count ≡ b.count = ap (λ (q : Stretch V). q.count) second in
      omega arith
  count_merged (x ∷ y ∷ rs) (suc at) a b less first second = ap (λ (k : ℕ). x.count + k) (count_merged (y ∷ rs) at a b (omega arith) first second)

  pub length_merged : (rs : List (Stretch V)) (at : ℕ) (a b : Stretch V) → suc at < length rs → length (merged rs at a b) + 1 ≡ length rs
  length_merged [] at a b less = absurd (omega arith)
  length_merged (x ∷ []) at a b less = absurd (omega arith)
  length_merged (x ∷ y ∷ rs) zero a b less = omega arith
  length_merged (x ∷ y ∷ rs) (suc at) a b less = omega (arith, length_merged (y ∷ rs) at a b (omega arith))

module _ {V : Type 0} (S : Ghosts V) (laws : GoesOn S.after S.lasts) where
  pub said_merged : (rs : List (Stretch V)) (at : ℕ) (a b : Stretch V) → suc at < length rs → get_or rs at a ≡ a → get_or rs (suc at) b ≡ b → Continues S a b → (n : ℕ) → said S (merged rs at a b) n ≡ said S rs n
  said_merged [] at a b less first second follows n = absurd (omega arith)
  said_merged (x ∷ []) at a b less first second follows n = absurd (omega arith)
  said_merged (x ∷ y ∷ rs) zero a b less first second follows n = both_say S laws a b rs follows n ∙ sym (λ i. said S (first i ∷ second i ∷ rs) n)
  said_merged (x ∷ y ∷ rs) (suc at) a b less first second follows n = same_rest S x (y ∷ rs) (merged (y ∷ rs) at a b) n (said_merged (y ∷ rs) at a b (omega arith) first second follows n)

  pub order_merged : (from : ℕ) (rs : List (Stretch V)) (at : ℕ) (a b : Stretch V) → AreInOrder S from rs → suc at < length rs → get_or rs at a ≡ a → get_or rs (suc at) b ≡ b → Continues S a b → a.count + b.count < 2 ^ 32 → AreInOrder S from (merged rs at a b)
  order_merged from [] at a b order less first second follows fits = absurd (omega arith)
  order_merged from (x ∷ []) at a b order less first second follows fits = absurd (omega arith)
  order_merged from (x ∷ y ∷ rs) zero a b order less first second follows fits =
      let ordered : AreInOrder S from (a ∷ record (shifted S a a.count) { count = b.count } ∷ rs) = subst (λ (q : Stretch V). AreInOrder S from (a ∷ q ∷ rs)) follows (subst (λ (q : List (Stretch V)). AreInOrder S from q) (λ i. first i ∷ second i ∷ rs) order) in
      let end : a.first + a.count + b.count ≡ a.first + (a.count + b.count) = omega arith in
      (ordered.0, fit_both S laws a b fits ordered.1 ordered.2.1, subst (λ (k : ℕ). AreInOrder S k rs) end ordered.2.2)
  order_merged from (x ∷ y ∷ rs) (suc at) a b order less first second follows fits = (order.0, order.1, order_merged (x.first + x.count) (y ∷ rs) at a b order.2 (omega arith) first second follows fits)
