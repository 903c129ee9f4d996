-- The first true place.
use Rattle.std.proofs.Common.{◌<◌, ◌≡◌, ℕ, suc, zero, ◌+◌, Bool, true, false, cond, List, [], ◌∷◌, length, drop, Some, None, refl, sym, ap, subst, ◌∙◌, arith, inl, inr, zero-add}
use Rattle.std.specs.Prelude.{slice_get, position, Contains, IsSome, count_by}
use Rattle.std.specs.List.{position_or_len}
use Rattle.std.proofs.lemmas.Bool.{cases_lt, cond_below, false≢true}
use Rattle.std.proofs.lemmas.Option.{slice_get-get_or}
use Rattle.std.proofs.lemmas.List.Quantifiers.{position-Some}
use Rattle.vm_port.specs.Choosing.{true_places}
use Rattle.std.proofs.lemmas.List.Sums.{get_or-le-sum_by, sum_by-cons, fails_before_first}

pub get_drop : {X : Type 0} (xs : List X) (n i : ℕ) → slice_get (drop n xs) i ≡ slice_get xs (n + i)
get_drop xs zero i = ap (slice_get xs) (sym (zero-add i))
get_drop [] (suc n) i = refl
get_drop (x ∷ xs) (suc n) i = let e : suc (n + i) ≡ suc n + i = omega arith in get_drop xs n i ∙ ap (slice_get (x ∷ xs)) e

-- what position gives is true
pub true_at : (may : List Bool) (i : ℕ) → position (λ b. b) may ≡ Some i → slice_get may i ≡ Some true
true_at may i e = let p = position-Some (λ b. b) may i false e in slice_get-get_or may i false p.0 ∙ ap Some p.1

-- where some place is true, there is a first
pub some_true : (may : List Bool) → Contains may true → IsSome (position (λ b. b) may)
some_true may c = elim (cases_lt (position_or_len (λ b. b) may) (length may)) [
  | inl h ↦ let e : Some (position_or_len (λ b. b) may) ≡ position (λ b. b) may = cond_below (position_or_len (λ b. b) may) (length may) (Some (position_or_len (λ b. b) may)) None h in subst IsSome e refl
  | inr h ↦ absurd (false≢true (sym (fails_before_first (λ b. b) may c.0 true (omega (arith, c.1))) ∙ c.2))
]

counted_at : (b : Bool) (n : ℕ) (bs : List Bool) → length (true_places (n + 1) bs) ≡ count_by (λ b. b) bs → length (cond b (n ∷ true_places (n + 1) bs) (true_places (n + 1) bs)) ≡ cond b 1 0 + count_by (λ b. b) bs
counted_at true n bs h = omega (arith, h)
counted_at false n bs h = omega (arith, h)

-- as many places as are true
count_places : (n : ℕ) (bs : List Bool) → length (true_places n bs) ≡ count_by (λ b. b) bs
count_places n [] = refl
count_places n (b ∷ bs) = omega (arith, counted_at b n bs (count_places (n + 1) bs), sum_by-cons (λ b. cond b 1 0) b bs)

pub places_counted : (bs : List Bool) → length (true_places 0 bs) ≡ count_by (λ b. b) bs
places_counted bs = count_places 0 bs

-- where some place is true there is one
pub some_place : (bs : List Bool) → Contains bs true → 0 < length (true_places 0 bs)
some_place bs c = omega (arith, places_counted bs, get_or-le-sum_by (λ (b : Bool). cond b 1 0) bs c.0 true c.1, ap {B = ℕ} (λ (b : Bool). cond b 1 0) c.2)
