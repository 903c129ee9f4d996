-- A stretch and the one before it that it continues.
use Rattle.std.proofs.Common.{◌≡◌, ℕ, ◌+◌, ◌-◌, ◌<◌, ◌^◌, List, [], ◌∷◌, length, get_or, sym, ap, subst, ◌∙◌, inl, inr, arith}
use Rattle.std.proofs.lemmas.Bool.{cases_order}
use Rattle.stretches.specs.declared.says.Says.{Ghosts}
use Rattle.stretches.specs.declared.stretch.Stretch.{Stretch}
use Rattle.stretches.specs.Places.{IsFirstBehind}
use Rattle.stretches.specs.Stretch.{Continues}
use Rattle.stretches.specs.Stretches.{AreInOrder, MeetAt}
use Rattle.stretches.proofs.Reading.Numbers.{any_default}
use Rattle.stretches.proofs.Reading.Order.{apart, fit_at}

module _ {V : Type 0} (S : Ghosts V) where
  -- they are the last two that begin at the number or before it
  pub place_of_meeting : (rs : List (Stretch V)) → AreInOrder S 0 rs → (n at : ℕ) → IsFirstBehind rs n at → (m : MeetAt S rs n) → at ≡ m.at + 2
  place_of_meeting [] order n at place m = absurd (omega (arith, m.within))
  place_of_meeting (x ∷ rs) order n at place m = elim (cases_order at (m.at + 2)) [
    | inl same ↦ same
    | inr other ↦ elim other [
      | inl less ↦ absurd (omega (arith, m.begins x, place.behind (m.at + 1) x (omega arith) m.within))
      | inr more ↦
          let next : m.at + 2 < length (x ∷ rs) = omega (arith, place.within) in
          absurd (omega (arith, m.begins x, (fit_at S 0 (x ∷ rs) order (m.at + 1) x m.within).some, apart S 0 (x ∷ rs) order (m.at + 1) (m.at + 2) x (omega arith) next, place.before (m.at + 2) x (omega arith)))
    ]
  ]

  module _ (rs : List (Stretch V)) (order : AreInOrder S 0 rs) (n at : ℕ) (place : IsFirstBehind rs n at) (m : MeetAt S rs n) where
    pub second_begins : (b : Stretch V) → b ≡ get_or rs (at - 1) b → b.first ≡ n
    second_begins b is =
        let index : at - 1 ≡ m.at + 1 = omega (arith, place_of_meeting rs order n at place m) in
        ap (λ (r : Stretch V). r.first) (is ∙ ap (λ (k : ℕ). get_or rs k b) index) ∙ m.begins b

    pub first_continued : (a b : Stretch V) → a ≡ get_or rs (at - 2) a → b ≡ get_or rs (at - 1) b → Continues S a b × (a.count + b.count < 2 ^ 32)
    first_continued a b first second =
        let place_is = place_of_meeting rs order n at place m in
        let index : at - 2 ≡ m.at = omega (arith, place_is) in
        let next : at - 1 ≡ m.at + 1 = omega (arith, place_is) in
        let a_is : a ≡ get_or rs m.at a = first ∙ ap (λ (k : ℕ). get_or rs k a) index in
        let b_is : b ≡ get_or rs (m.at + 1) a = second ∙ ap (λ (k : ℕ). get_or rs k b) next ∙ any_default rs (m.at + 1) b a m.within in
        let continues : Continues S a b = subst (λ (r : Stretch V). Continues S r b) (sym a_is) (subst (λ (r : Stretch V). Continues S (get_or rs m.at a) r) (sym b_is) (m.continues a)) in
        let few : a.count + b.count < 2 ^ 32 = omega (arith, m.few a, ap (λ (r : Stretch V). r.count) a_is, ap (λ (r : Stretch V). r.count) b_is) in
        (continues, few)

  -- the last two stretches that begin at the number or before it are those that meet there
  pub pair_meets : (rs : List (Stretch V)) → AreInOrder S 0 rs → (n k : ℕ) → IsFirstBehind rs n (k + 2) → MeetAt S rs n → (a b : Stretch V) → a ≡ get_or rs k a → b ≡ get_or rs (k + 1) b → (b.first ≡ n) × (Continues S a b × (a.count + b.count < 2 ^ 32))
  pair_meets rs order n k place m a b first second =
      let two_less : k ≡ (k + 2) - 2 = omega arith in
      let one_less : k + 1 ≡ (k + 2) - 1 = omega arith in
      let a_is = first ∙ ap (λ (q : ℕ). get_or rs q a) two_less in
      let b_is = second ∙ ap (λ (q : ℕ). get_or rs q b) one_less in
      (second_begins rs order n (k + 2) place m b b_is, first_continued rs order n (k + 2) place m a b a_is b_is)
