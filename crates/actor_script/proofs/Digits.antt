-- Digits of a base, read one after another.
use Rattle.std.proofs.Common.{◌≡◌, ◌+◌, ◌*◌, ◌^◌, ◌<◌, ◌≤◌, ℕ, zero, suc, true, Option, Some, None, unwrap_or, List, [], ◌∷◌, length, take, get_or, arith, ◌∙◌, lit<, refl, ap}
use Rattle.std.specs.Char.{digit_value, is_digit}
use Rattle.hex.specs.Hex.{hex_digit_value}
use Rattle.std.specs.List.{list_all}
use Rattle.std.specs.Str.Parse.{digits_value}
use Rattle.std.proofs.Math.Nat.{pow-le-pow_left, pow-le-pow_right, mul-le-mul_left, mul-le-mul_right}
use Rattle.std.proofs.lemmas.Bool.{and_from}
use Rattle.std.proofs.lemmas.Bool.Decides.{nat_tests}
use Rattle.std.proofs.lemmas.Grind.{pow_more}
use Rattle.std.proofs.lemmas.Int.Digits.{digits_value_more}
use Rattle.std.proofs.lemmas.List.Folds.{list_all_more}

module _ (base : ℕ) where
  -- a number of fewer than twelve digits has room for one more
  pub shifted_below : (i n : ℕ) → base ≤ 16 → i < 12 → n < base ^ i → base * n < 16 ^ 12
  shifted_below i n most few small =
      omega (arith, mul-le-mul_right {m = base} {n = 16} n most, pow-le-pow_left {n = base} {m = 16} most i, pow-le-pow_right {n = 16} (lit< tt) {i = i} {j = 11} (omega arith))

  -- What was read of a word's first digits, and what of the next one. A digit more is read of them.
  pub record AreRead (word : List ℕ) (i n : ℕ) : Type 0 where
    pub digits : list_all (λ c. is_digit c base) (take i word) ≡ true
    pub value : n ≡ digits_value base (take i word)
    pub small : n < base ^ i

  pub one_more : (word : List ℕ) (i n digit : ℕ) → AreRead word i n → i < length word → is_digit (get_or word i 0) base ≡ true → digit ≡ digit_value (get_or word i 0) → digit < base → AreRead word (i + 1) (base * n + digit)
  one_more word i n digit before within is value below = record {
    digits = list_all_more (λ c. is_digit c base) word i 0 within ∙ and_from _ _ before.digits is;
    value = grind (arith, digits_value_more base word i within, before.value);
    small = grind (arith, pow_more base i, mul-le-mul_left {m = n + 1} {n = base ^ i} base (omega (arith, before.small)));
  }

-- a hexadecimal digit that was read
pub is_read : (c d : ℕ) → hex_digit_value c ≡ Some d → (is_digit c 16 ≡ true) × (d ≡ digit_value c) × (d < 16)
is_read c d is = (grind (arith, nat_tests), grind (arith, nat_tests), grind (arith, nat_tests))

-- the value of a byte as a digit, and 255 where it is none
abbrev pub value_or : ℕ → ℕ
value_or c = unwrap_or (hex_digit_value c) 255

-- the values of so many bytes, from one on
abbrev pub values_from : ℕ → ℕ → List ℕ
values_from zero c = []
values_from (suc n) c = value_or c ∷ values_from n (c + 1)

value_at : (n c k b : ℕ) → k < n → b ≡ c + k → get_or (values_from n c) k 0 ≡ value_or b
value_at zero c k b within is = absurd (omega arith)
value_at (suc n) c zero b within is = let same : c ≡ b = omega arith in ap value_or same
value_at (suc n) c (suc k) b within is = value_at n (c + 1) k b (omega arith) (omega arith)

some_value : (o : Option ℕ) (v : ℕ) → v ≡ unwrap_or o 255 → v < 16 → Some v ≡ o
some_value (Some w) v is small = ap Some is
some_value None v is small = absurd (omega arith)

no_value : (o : Option ℕ) (v : ℕ) → v ≡ unwrap_or o 255 → 16 ≤ v → ((d : ℕ) → o ≡ Some d → d < 16) → None ≡ o
no_value (Some w) v is large small = absurd (omega (arith, is, small w refl))
no_value None v is large small = refl

-- what is looked up in the values of all bytes
module _ (c : ℕ) (within : c < 256) where
  value_is : get_or (values_from 256 0) c 0 ≡ value_or c
  value_is = value_at 256 0 c c within (omega arith)

  pub looked_up : get_or (values_from 256 0) c 0 < 16 → Some (get_or (values_from 256 0) c 0) ≡ hex_digit_value c
  looked_up small = some_value (hex_digit_value c) (get_or (values_from 256 0) c 0) value_is small

  pub not_found : 16 ≤ get_or (values_from 256 0) c 0 → None ≡ hex_digit_value c
  not_found large = no_value (hex_digit_value c) (get_or (values_from 256 0) c 0) value_is large (λ d is. (is_read c d is).2)
