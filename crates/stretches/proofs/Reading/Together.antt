-- Numbers that are in one stretch.
use Rattle.std.proofs.Common.{◌≡◌, ℕ, ◌+◌, ◌<◌, ◌≤◌, List, [], ◌∷◌, length, get_or, IsSome, refl, sym, ap, subst, arith}
use Rattle.stretches.specs.declared.says.Says.{Ghosts}
use Rattle.stretches.specs.declared.stretch.Stretch.{Stretch}
use Rattle.stretches.specs.Places.{HasAt, IsPart}
use Rattle.stretches.specs.Stretches.{AreInOrder, AreTogether, said}
use Rattle.stretches.proofs.Reading.Numbers.{any_default, high, low, within}
use Rattle.stretches.proofs.Reading.Order.{one_place}
use Rattle.stretches.proofs.Reading.Sayings.{said_at}

module _ {V : Type 0} where
  -- the stretch that has numbers together has the first one
  together_has : (rs : List (Stretch V)) (first count : ℕ) → 0 < count → (c : AreTogether rs first count) → HasAt rs first c.at
  together_has rs first count some c = record { within = c.within; has = λ d. within (get_or rs c.at d) first (c.from d) (omega (arith, c.to d)) }

  -- the numbers of a stretch are in one
  pub part_together : (rs : List (Stretch V)) (first count at : ℕ) → IsPart rs first count at → AreTogether rs first count
  part_together rs first count at part = record {
    at = at;
    within = part.within;
    from = λ d. omega (arith, part.first d);
    to = λ d. omega (arith, part.first d, part.count d);
  }

  -- the stretch of some numbers has the first one
  pub part_has : (rs : List (Stretch V)) (first count at : ℕ) → 0 < count → IsPart rs first count at → HasAt rs first at
  part_has rs first count at some part = record {
    within = part.within;
    has = λ d. within (get_or rs at d) first (omega (arith, part.first d)) (omega (arith, part.first d, part.count d));
  }

  -- one number that is in a stretch
  pub together_one : (rs : List (Stretch V)) (n at : ℕ) → HasAt rs n at → AreTogether rs n 1
  together_one rs n at has = record {
    at = at;
    within = has.within;
    from = λ d. low (get_or rs at d) n (has.has d);
    to = λ d. omega (arith, high (get_or rs at d) n (has.has d));
  }

  -- a stretch that begins at the number and has neither fewer nor more
  pub part_from : (rs : List (Stretch V)) (first count at : ℕ) (e : Stretch V) → at < length rs → ((d : Stretch V) → (get_or rs at d).first ≡ first) → ((d : Stretch V) → count ≤ (get_or rs at d).count) → (get_or rs at e).count ≤ count → IsPart rs first count at
  part_from rs first count at e less begins long few = record {
    within = less;
    first = begins;
    count = λ d.
        let same : (get_or rs at d).count ≡ (get_or rs at e).count = ap (λ (r : Stretch V). r.count) (any_default rs at d e less) in
        omega (arith, same, long d, few);
  }

module _ {V : Type 0} (S : Ghosts V) where
  -- the stretch that has the first of them goes on as far
  pub reaches : (rs : List (Stretch V)) → AreInOrder S 0 rs → (first count at : ℕ) (r : Stretch V) → 0 < count → AreTogether rs first count → HasAt rs first at → r ≡ get_or rs at r → first + count ≤ r.first + r.count
  reaches rs order first count at r some c has is =
      let same : c.at ≡ at = one_place S rs order first c.at at (together_has rs first count some c) has r in
      let far : first + count ≤ (get_or rs at r).first + (get_or rs at r).count = subst (λ (k : ℕ). first + count ≤ (get_or rs k r).first + (get_or rs k r).count) same (c.to r) in
      subst (λ (q : Stretch V). first + count ≤ q.first + q.count) (sym is) far

  -- no other stretch has the first number of one
  pub part_is : (rs : List (Stretch V)) → AreInOrder S 0 rs → (first count at other : ℕ) → Stretch V → 0 < count → IsPart rs first count at → HasAt rs first other → IsPart rs first count other
  part_is rs order first count at other d some part has =
      subst (IsPart rs first count) (one_place S rs order first at other (part_has rs first count at some part) has d) part

  -- something is said of the first of them
  pub together_said : (rs : List (Stretch V)) → AreInOrder S 0 rs → (first count : ℕ) → 0 < count → AreTogether rs first count → IsSome (said S rs first)
  together_said [] order first count some c = absurd (omega (arith, c.within))
  together_said (x ∷ rs) order first count some c = subst IsSome (sym (said_at S 0 (x ∷ rs) order c.at x first c.within ((together_has (x ∷ rs) first count some c).has x))) refl
