-- The front of a line, and more bytes.
use Rattle.std.proofs.Common.{◌≡◌, ◌+◌, ℕ, List, [], ◌∷◌, ◌++◌, length, take, min, zero, suc, refl, sym, ap, ◌∙◌, arith}
use Rattle.std.proofs.Math.Seq.{take-append-add}
use Rattle.std.proofs.lemmas.List.{take_min}
use Rattle.line_service.specs.Script.{front_of_line}

-- as many of the bytes as a buffer for the front has room for
pub extended : (old bytes new : List ℕ) (room : ℕ) → room + length old ≡ 257 → new ≡ old ++ take (min room (length bytes)) bytes → new ≡ front_of_line (old ++ bytes)
extended old bytes new room all is =
    let count : length old + room ≡ 257 = omega arith in
    is ∙ ap (λ (l : List ℕ). old ++ l) (take_min room bytes) ∙ sym (take-append-add old bytes room) ∙ ap (λ (n : ℕ). take n (old ++ bytes)) count

-- a front of a front and more bytes
take_on : (n : ℕ) (line more : List ℕ) → take n (take n line ++ more) ≡ take n (line ++ more)
take_on zero line more = refl
take_on (suc n) [] more = refl
take_on (suc n) (b ∷ bs) more = ap (λ (l : List ℕ). b ∷ l) (take_on n bs more)

pub front_on : (line more : List ℕ) → front_of_line (front_of_line line ++ more) ≡ front_of_line (line ++ more)
front_on line more = take_on 257 line more
