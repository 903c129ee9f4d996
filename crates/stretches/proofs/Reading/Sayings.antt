-- What a list says of a number.
use Rattle.std.proofs.Common.{◌≡◌, ℕ, zero, suc, ◌+◌, ◌-◌, ◌<◌, Bool, true, false, cond, List, [], ◌∷◌, length, get_or, Option, Some, None, IsSome, refl, ap, subst, ◌∙◌, inl, inr, arith}
use Rattle.std.proofs.lemmas.Bool.{cases_Bool, cases_order, false≢true}
use Rattle.stretches.specs.declared.says.Says.{Ghosts}
use Rattle.stretches.specs.declared.stretch.Stretch.{Stretch}
use Rattle.stretches.specs.Places.{HasAt, IsFirstBehind}
use Rattle.stretches.specs.Stretch.{is_in, value_at}
use Rattle.stretches.specs.Stretches.{AreInOrder, IsStretchWith, said}
use Rattle.stretches.proofs.Reading.Numbers.{any_default, low, out_before, out_behind}
use Rattle.stretches.proofs.Reading.Order.{apart, fit_at, rises}

module _ {V : Type 0} (S : Ghosts V) where
  -- the first stretch says nothing of a number outside it, and all of one in it
  pub skip : (r : Stretch V) (rs : List (Stretch V)) (n : ℕ) → is_in r n ≡ false → said S (r ∷ rs) n ≡ said S rs n
  skip r rs n h = ap (λ (b : Bool). cond b (Some (value_at S r n)) (said S rs n)) h

  pub here : (r : Stretch V) (rs : List (Stretch V)) (n : ℕ) → is_in r n ≡ true → said S (r ∷ rs) n ≡ Some (value_at S r n)
  here r rs n h = ap (λ (b : Bool). cond b (Some (value_at S r n)) (said S rs n)) h

  -- what is said goes on from a rest that says the same
  pub same_rest : (x : Stretch V) (rs others : List (Stretch V)) (n : ℕ) → said S others n ≡ said S rs n → said S (x ∷ others) n ≡ said S (x ∷ rs) n
  same_rest x rs others n e = ap (λ (o : Option V). cond (is_in x n) (Some (value_at S x n)) o) e

  -- nothing is said of a number that no stretch has
  pub said_none : (rs : List (Stretch V)) (n : ℕ) → ((k : ℕ) (d : Stretch V) → k < length rs → is_in (get_or rs k d) n ≡ false) → said S rs n ≡ None
  said_none [] n out = refl
  said_none (r ∷ rs) n out = skip r rs n (out 0 r (omega arith)) ∙ said_none rs n (λ k d less. out (suc k) d (omega arith))

  -- nothing is said of a number before the stretches
  pub said_below : (from : ℕ) (rs : List (Stretch V)) → AreInOrder S from rs → (n : ℕ) → n < from → said S rs n ≡ None
  said_below from rs order n h = said_none rs n (λ k d less. out_before (get_or rs k d) n (omega (arith, rises S from rs order k d less)))

  -- of a number in a stretch this stretch says it
  pub said_at : (from : ℕ) (rs : List (Stretch V)) → AreInOrder S from rs → (at : ℕ) (d : Stretch V) (n : ℕ) → at < length rs → is_in (get_or rs at d) n ≡ true → said S rs n ≡ Some (value_at S (get_or rs at d) n)
  said_at from [] order at d n less has = absurd (omega arith)
  said_at from (r ∷ rs) order zero d n less has = here r rs n has
  said_at from (r ∷ rs) order (suc at) d n less has =
      let begins = rises S (r.first + r.count) rs order.2 at d (omega arith) in
      skip r rs n (out_behind r n (omega (arith, begins, low (get_or rs at d) n has))) ∙ said_at (r.first + r.count) rs order.2 at d n (omega arith) has

  -- nothing is said where the last stretch that begins at the number or before it doesn't have it
  said_gap : (rs : List (Stretch V)) → AreInOrder S 0 rs → (n at : ℕ) → IsFirstBehind rs n at → ((k : ℕ) (d : Stretch V) → suc k ≡ at → is_in (get_or rs k d) n ≡ false) → said S rs n ≡ None
  said_gap rs order n at place last = said_none rs n (λ k d less. elim (cases_order (suc k) at) [
    | inl same ↦ last k d same
    | inr other ↦ elim other [
      | inl before ↦ out_behind (get_or rs k d) n (omega (arith, apart S 0 rs order k (at - 1) d (omega arith) (omega (arith, place.within)), place.before (at - 1) d (omega arith)))
      | inr behind ↦ out_before (get_or rs k d) n (place.behind k d (omega arith) less)
    ]
  ])

  -- nothing is said where no stretch begins at the number or before it
  pub said_first : (rs : List (Stretch V)) → AreInOrder S 0 rs → (n at : ℕ) → IsFirstBehind rs n at → at ≡ 0 → said S rs n ≡ None
  said_first rs order n at place e = said_gap rs order n at place (λ k d last. absurd (omega arith))

  -- the same where the last one that begins there hasn't the number
  pub said_last : (rs : List (Stretch V)) → AreInOrder S 0 rs → (n k : ℕ) → IsFirstBehind rs n (k + 1) → ¬ HasAt rs n k → said S rs n ≡ None
  said_last rs order n k place out = said_gap rs order n (k + 1) place (λ j d last. elim (cases_Bool (is_in (get_or rs j d) n)) [
    | inl h ↦
        let less : k < length rs = omega (arith, place.within) in
        let same : get_or rs k d ≡ get_or rs j d = ap (λ q. get_or rs q d) (omega arith) in
        absurd (out (record { within = less; has = λ e. ap (λ (r : Stretch V). is_in r n) (any_default rs k e d less ∙ same) ∙ h }))
    | inr h ↦ h
  ])

  -- the stretch at a place where the number is has it, and says what the stretches say
  pub stretch_at_place : (rs : List (Stretch V)) → AreInOrder S 0 rs → (n at : ℕ) (d : Stretch V) → HasAt rs n at → IsStretchWith S rs n (get_or rs at d)
  stretch_at_place rs order n at d has = record {
    fit = fit_at S 0 rs order at d has.within;
    has = has.has d;
    said = λ m h. said_at 0 rs order at d m has.within h;
  }

  -- what is said of a number is said by the stretch at some place
  pub place_said : (rs : List (Stretch V)) (n : ℕ) → IsSome (said S rs n) → (at : ℕ) × HasAt rs n at
  place_said [] n some = absurd (false≢true some)
  place_said (r ∷ rs) n some = elim (cases_Bool (is_in r n)) [
    | inl h ↦ (0, record { within = omega arith; has = λ d. h })
    | inr h ↦
        let rest = place_said rs n (subst IsSome (skip r rs n h) some) in
        (suc rest.0, record { within = omega (arith, rest.1.within); has = rest.1.has })
  ]
