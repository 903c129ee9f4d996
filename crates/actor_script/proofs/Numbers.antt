-- Words that are numbers.
use Rattle.std.proofs.Common.{◌≡◌, ◌^◌, ◌<◌, ◌≤◌, ℕ, zero, suc, true, List, [], ◌∷◌, Option, Some, None, length, get_or, refl, sym, ap, subst, ◌∙◌, arith, decimal, nat_lt, inl, inr}
use Rattle.std.specs.Prelude.{bytes_eq, ◌&&◌, if◌then◌else◌}
use Rattle.std.specs.Char.{digit_value, is_digit}
use Rattle.std.specs.List.{list_all}
use Rattle.std.specs.Str.Parse.{digits_value, AllDigits}
use Rattle.std.proofs.lemmas.Bool.{cases_Bool, and_parts, and_from, ltb-true, lt-ltb, le-ltb, cond-true, cond-false}
use Rattle.std.proofs.lemmas.Fmt.{decimal_is_IsNumeral, decimal-digits_value, decimal_digit, first_decimal, length-decimal-le}
use Rattle.std.proofs.lemmas.Slice.Eq.{bytes_eq-Decides}
use Rattle.std.proofs.lemmas.Str.Parse.{numerals_by_value, tells_digits}
use Rattle.actor_script.specs.Operands.{number_of, number_if}

-- A word is spelled as a number below 2^32 is printed, but that its value may be larger.
pub record IsSpelled (word : List ℕ) : Type 0 where
  pub some : 1 ≤ length word
  pub few : length word ≤ 10
  pub lead : get_or word 0 0 ≡ 48 → length word ≡ 1
  pub digits : list_all (λ c. is_digit c 10) word ≡ true

all_digits : (word : List ℕ) → AllDigits 10 word → list_all (λ c. is_digit c 10) word ≡ true
all_digits [] d = refl
all_digits (c ∷ cs) d = and_from _ _ (lt-ltb (digit_value c) 10 d.0) (all_digits cs d.1)

digits_all : (word : List ℕ) → list_all (λ c. is_digit c 10) word ≡ true → AllDigits 10 word
digits_all [] e = tt
digits_all (c ∷ cs) e = let parts = and_parts (is_digit c 10) (list_all (λ c. is_digit c 10) cs) e in (ltb-true (digit_value c) 10 parts.0, digits_all cs parts.1)

lead_of : (n : ℕ) → n < 2 ^ 64 → get_or (decimal n) 0 0 ≡ 48 → length (decimal n) ≡ 1
lead_of zero h e = ap length (decimal_digit 0 (omega arith))
lead_of (suc n) h e = absurd (omega (arith, first_decimal (suc n) (omega arith) h))

-- what is printed is spelled so
printed : (n : ℕ) → n < 2 ^ 32 → IsSpelled (decimal n)
printed n h =
    let numeral = (decimal_is_IsNumeral n (omega arith)).0 in
    record {
      some = numeral.0;
      few = length-decimal-le 10 n (omega arith) (omega arith) (omega arith);
      lead = lead_of n (omega arith);
      digits = all_digits (decimal n) numeral.1;
    }

-- a word that isn't spelled so
pub no_number : (word : List ℕ) → (IsSpelled word → ⊥) → number_of word ≡ None
unfolding number_of
no_number word not =
    let n = digits_value 10 word in
    elim (cases_Bool (nat_lt n (2 ^ 32) && bytes_eq (decimal n) word)) [
      | inl t ↦
          let parts = and_parts (nat_lt n (2 ^ 32)) (bytes_eq (decimal n) word) t in
          absurd (not (subst IsSpelled ((bytes_eq-Decides (decimal n) word).0 parts.1) (printed n (ltb-true n (2 ^ 32) parts.0))))
      | inr f ↦ cond-false (nat_lt n (2 ^ 32) && bytes_eq (decimal n) word) (Some n) None f
    ]

module _ (word : List ℕ) (n : ℕ) (spelled : IsSpelled word) (value : n ≡ digits_value 10 word) where
  -- a word that is
  pub number_small : n < 2 ^ 32 → number_of word ≡ Some n
  unfolding number_of
  number_small h =
      let same : decimal n ≡ word = ap decimal value ∙ decimal-digits_value (numerals_by_value _ tells_digits) word (digits_all word spelled.digits) spelled.some spelled.lead (omega (arith, value)) in
      ap (λ k. number_if k word) (sym value)
      ∙ cond-true (nat_lt n (2 ^ 32) && bytes_eq (decimal n) word) (Some n) None (and_from _ _ (lt-ltb n (2 ^ 32) h) ((bytes_eq-Decides (decimal n) word).1 same))

  -- a number that is too large
  pub number_large : 2 ^ 32 ≤ n → number_of word ≡ None
  unfolding number_of
  number_large h =
      ap (λ k. number_if k word) (sym value)
      ∙ cond-false (nat_lt n (2 ^ 32) && bytes_eq (decimal n) word) (Some n) None (ap (λ b. b && bytes_eq (decimal n) word) (le-ltb n (2 ^ 32) h))

-- what was read of the digits

abbrev read_of : List ℕ → Option ℕ
read_of word = if list_all (λ c. is_digit c 10) word then Some (digits_value 10 word) else None

pub not_digits : (word : List ℕ) (r : Option ℕ) → r ≡ (if list_all (λ c. is_digit c 10) word then Some (digits_value 10 word) else None) → r ≡ None → number_of word ≡ None
not_digits word r read none = no_number word (λ s.
    let some : read_of word ≡ Some (digits_value 10 word) = cond-true (list_all (λ c. is_digit c 10) word) (Some (digits_value 10 word)) None s.digits in
    absurd (cc))

pub are_digits : (word : List ℕ) (r : Option ℕ) (n : ℕ) → r ≡ (if list_all (λ c. is_digit c 10) word then Some (digits_value 10 word) else None) → r ≡ Some n → (list_all (λ c. is_digit c 10) word ≡ true) × (n ≡ digits_value 10 word)
are_digits word r n read some = elim (cases_Bool (list_all (λ c. is_digit c 10) word)) [
  | inl t ↦ let is : read_of word ≡ Some (digits_value 10 word) = cond-true (list_all (λ c. is_digit c 10) word) (Some (digits_value 10 word)) None t in (t, cc)
  | inr f ↦ let is : read_of word ≡ None = cond-false (list_all (λ c. is_digit c 10) word) (Some (digits_value 10 word)) None f in absurd (cc)
]
