-- How many numbers there are, and that there are no more stretches than numbers.
use Rattle.std.proofs.Common.{◌≡◌, ℕ, zero, suc, ◌+◌, ◌-◌, ◌<◌, ◌≤◌, true, List, [], ◌∷◌, length, get_or, sym, subst, arith}
use Rattle.stretches.specs.declared.says.Says.{Ghosts}
use Rattle.stretches.specs.declared.stretch.Stretch.{Stretch}
use Rattle.stretches.specs.Places.{HasAt}
use Rattle.stretches.specs.Stretch.{is_in}
use Rattle.stretches.specs.Stretches.{AreInOrder, number_count}
use Rattle.stretches.proofs.Reading.Numbers.{high, low}

module _ {V : Type 0} (S : Ghosts V) where
  -- there are no more stretches than numbers
  pub few : (from : ℕ) (rs : List (Stretch V)) → AreInOrder S from rs → length rs ≤ number_count rs
  few from [] order = omega arith
  few from (r ∷ rs) order = omega (arith, order.1.some, few (r.first + r.count) rs order.2)

  -- and fewer, where a stretch has more than one
  fewer : (from : ℕ) (rs : List (Stretch V)) → AreInOrder S from rs → (at : ℕ) (d : Stretch V) → at < length rs → 1 < (get_or rs at d).count → length rs < number_count rs
  fewer from [] order at d less more = absurd (omega arith)
  fewer from (r ∷ rs) order zero d less more = omega (arith, few (r.first + r.count) rs order.2)
  fewer from (r ∷ rs) order (suc at) d less more = omega (arith, order.1.some, fewer (r.first + r.count) rs order.2 at d (omega arith) more)

  -- so there is a place for one more where a stretch has more than one number
  pub room_for_part : (rs : List (Stretch V)) → AreInOrder S 0 rs → (at : ℕ) (r : Stretch V) (places : ℕ) → at < length rs → r ≡ get_or rs at r → 1 < r.count → number_count rs ≤ places → length rs < places
  room_for_part rs order at r places less is more fits =
      let two : 1 < (get_or rs at r).count = subst (λ (q : Stretch V). 1 < q.count) is more in
      omega (arith, fewer 0 rs order at r less two)

  -- as where a number is in a stretch that begins before it
  pub room_at : (rs : List (Stretch V)) → AreInOrder S 0 rs → (n at : ℕ) (r : Stretch V) (places : ℕ) → HasAt rs n at → r ≡ get_or rs at r → 0 < n - r.first → number_count rs ≤ places → length rs < places
  room_at rs order n at r places has is some fits =
      let inside : is_in r n ≡ true = subst (λ (q : Stretch V). is_in q n ≡ true) (sym is) (has.has r) in
      room_for_part rs order at r places has.within is (omega (arith, low r n inside, high r n inside)) fits
