-- The parts of a stretch.
use Rattle.std.proofs.Common.{◌≡◌, ℕ, ◌+◌, ◌-◌, ◌<◌, ◌≤◌, ◌^◌, List, ◌∷◌, Some, sym, ap, subst, ◌∙◌, inl, inr, arith}
use Rattle.std.proofs.lemmas.Bool.{cases_lt}
use Rattle.stretches.specs.declared.says.Says.{Ghosts}
use Rattle.stretches.specs.declared.stretch.Stretch.{Stretch}
use Rattle.stretches.specs.GoingOn.{GoesOn}
use Rattle.stretches.specs.Stretch.{Continues, IsFit, behind, front, shifted}
use Rattle.stretches.specs.Stretches.{said}
use Rattle.stretches.proofs.Reading.Numbers.{out_before, out_behind, within}
use Rattle.stretches.proofs.Reading.Sayings.{here, skip}

module _ {V : Type 0} (S : Ghosts V) (laws : GoesOn S.after S.lasts) where
  -- a value lasts for fewer numbers, and what is said behind them for the rest
  pub lasts_fewer : (v : V) (a c : ℕ) → a ≤ c → S.lasts v c → S.lasts v a
  lasts_fewer v a c le h =
      let sum : c ≡ a + (c - a) = omega arith in
      ((laws.splits v a (c - a)).0 (subst (S.lasts v) sum h)).0

  lasts_behind : (v : V) (a c : ℕ) → a ≤ c → S.lasts v c → S.lasts (S.after v a) (c - a)
  lasts_behind v a c le h =
      let sum : c ≡ a + (c - a) = omega arith in
      ((laws.splits v a (c - a)).0 (subst (S.lasts v) sum h)).1

  pub fit_behind : (r : Stretch V) (a : ℕ) → a < r.count → IsFit S r → IsFit S (behind S r a)
  fit_behind r a less fit = record { some = omega arith; short = omega (arith, fit.short); ends = omega (arith, fit.ends); lasts = lasts_behind r.value a r.count (omega arith) fit.lasts }

  pub fit_front : (r : Stretch V) (a : ℕ) → 0 < a → a ≤ r.count → IsFit S r → IsFit S (front r a)
  fit_front r a some le fit = record { some = some; short = omega (arith, fit.short); ends = omega (arith, fit.ends); lasts = lasts_fewer r.value a r.count le fit.lasts }

  -- the two parts of a stretch say together what it says
  pub two_say : (r : Stretch V) (rs : List (Stretch V)) (a : ℕ) → a ≤ r.count → (n : ℕ) → said S (front r a ∷ behind S r a ∷ rs) n ≡ said S (r ∷ rs) n
  two_say r rs a le n = elim (cases_lt n r.first) [
    | inl before ↦
        skip S (front r a) (behind S r a ∷ rs) n (out_before (front r a) n before) ∙ skip S (behind S r a) rs n (out_before (behind S r a) n (omega arith)) ∙ sym (skip S r rs n (out_before r n before))
    | inr from ↦ elim (cases_lt n (r.first + a)) [
      | inl less ↦ here S (front r a) (behind S r a ∷ rs) n (within (front r a) n from less) ∙ sym (here S r rs n (within r n from (omega arith)))
      | inr le_n ↦ skip S (front r a) (behind S r a ∷ rs) n (out_behind (front r a) n le_n) ∙ elim (cases_lt n (r.first + r.count)) [
        | inl less ↦
            let far : a + (n - (r.first + a)) ≡ n - r.first = omega arith in
            here S (behind S r a) rs n (within (behind S r a) n le_n (omega arith))
            ∙ ap (λ (x : V). Some x) (laws.composes r.value a (n - (r.first + a)) ∙ ap (S.after r.value) far)
            ∙ sym (here S r rs n (within r n from less))
        | inr past ↦ skip S (behind S r a) rs n (out_behind (behind S r a) n (omega arith)) ∙ sym (skip S r rs n (out_behind r n past))
      ]
    ]
  ]

module _ {V : Type 0} where
  -- a stretch that says what both say
  abbrev pub both : Stretch V → Stretch V → Stretch V
  both a b = front a (a.count + b.count)

module _ {V : Type 0} (S : Ghosts V) (laws : GoesOn S.after S.lasts) where
  behind_both : (a b : Stretch V) → Continues S a b → behind S (both a b) a.count ≡ b
  behind_both a b follows =
      let count : a.count + b.count - a.count ≡ b.count = omega arith in
      (λ i. record (shifted S a a.count) { count = count i }) ∙ sym follows

  pub both_say : (a b : Stretch V) (rs : List (Stretch V)) → Continues S a b → (n : ℕ) → said S (both a b ∷ rs) n ≡ said S (a ∷ b ∷ rs) n
  both_say a b rs follows n = sym (two_say S laws (both a b) rs a.count (omega arith) n) ∙ ap (λ (q : Stretch V). said S (a ∷ q ∷ rs) n) (behind_both a b follows)

  pub fit_both : (a b : Stretch V) → a.count + b.count < 2 ^ 32 → IsFit S a → IsFit S (record (shifted S a a.count) { count = b.count }) → IsFit S (both a b)
  fit_both a b fits fit next = record { some = omega (arith, fit.some); short = fits; ends = omega (arith, next.ends); lasts = (laws.splits a.value a.count b.count).1 (fit.lasts, next.lasts) }
