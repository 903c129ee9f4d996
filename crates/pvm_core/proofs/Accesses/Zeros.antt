-- Parts of pages of zeros.
use Rattle.std.proofs.Common.{◌≡◌, ℕ, zero, suc, ◌+◌, ◌≤◌, List, ◌∷◌, length, take, drop, replicate, refl, sym, ap, ◌∙◌, arith}
use Rattle.std.proofs.lemmas.List.{length-drop, length-take-le}

abbrev pub zeros : ℕ → List ℕ
zeros k = replicate k 0

take_zeros : (n k : ℕ) → n ≤ k → take n (zeros k) ≡ zeros n
take_zeros zero k low = refl
take_zeros (suc n) zero low = absurd (omega (arith, low))
take_zeros (suc n) (suc k) low = ap (λ xs. 0 ∷ xs) (take_zeros n k (omega (arith, low)))

part_zeros : (n i k : ℕ) → i + n ≤ k → take n (drop i (zeros k)) ≡ zeros n
part_zeros n zero k low = take_zeros n k (omega (arith, low))
part_zeros n (suc i) zero low = absurd (omega (arith, low))
part_zeros n (suc i) (suc k) low = part_zeros n i k (omega (arith, low))

pub zeros_part : (n i k : ℕ) → n ≤ 64 → i + n ≤ k → take n (drop 0 (zeros 64)) ≡ take n (drop i (zeros k))
zeros_part n i k few low = part_zeros n 0 64 (omega (arith, few)) ∙ sym (part_zeros n i k low)

pub part_long : (xs : List ℕ) (n i : ℕ) → i + n ≤ length xs → length (take n (drop i xs)) ≡ n
part_long xs n i low = length-take-le n (drop i xs) (omega (arith, length-drop i xs, low))
