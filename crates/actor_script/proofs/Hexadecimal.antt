-- A number, written from its last hexadecimal digit to its first.
use Rattle.std.proofs.Common.{◌≡◌, ◌+◌, ◌-◌, ◌/◌, ◌%◌, ◌^◌, ◌<◌, ◌≤◌, ◌==◌, ℕ, zero, suc, false, List, ◌∷◌, length, take, drop, set, drop_of_length-le, arith, sym, ap}
use Rattle.std.specs.Fmt.{digit_glyph, digits, digits_onto}
use Rattle.std.proofs.lemmas.List.{drop-set, length-drop, length-set, take_all}
use Rattle.std.proofs.lemmas.Bool.{cond-true, cond-false, eq-eqb, ne_eqb}
use Rattle.std.proofs.lemmas.Grind.{pow_more}
use Rattle.actor_script.specs.Text.{hexadecimal}

last_of : (j k n : ℕ) (acc : List ℕ) → j ≡ suc k → n < 16 → digits_onto j 16 false n acc ≡ digit_glyph false (n % 16) ∷ acc
last_of j k n acc e h = rw e (cond-true (n / 16 == 0) _ _ (eq-eqb (n / 16) 0 (omega arith)))

more_of : (j k n : ℕ) (acc : List ℕ) → j ≡ suc k → 16 ≤ n → digits_onto j 16 false n acc ≡ digits_onto k 16 false (n / 16) (digit_glyph false (n % 16) ∷ acc)
more_of j k n acc e h = rw e (cond-false (n / 16 == 0) _ _ (ne_eqb (n / 16) 0 (λ z. omega arith)))

-- no digit yet, in room for 16
pub none_written : (n : ℕ) (room : List ℕ) → length room ≡ 16 → digits_onto 64 16 false n (drop 16 room) ≡ hexadecimal n
unfolding digits
none_written n room h = ap (digits_onto 64 16 false n) (drop_of_length-le room {i = 16} (omega (arith, h)))

-- one digit more
pub one_written : (first left : ℕ) (room : List ℕ) (digit : ℕ) → 16 ≤ left → 1 ≤ first → first < length room → digit ≡ digit_glyph false (left % 16) → digits_onto (first - 1 + 49) 16 false (left / 16) (drop (first - 1 + 1) (set room first digit)) ≡ digits_onto (first + 49) 16 false left (drop (first + 1) room)
one_written first left room digit large some within is =
    let steps : first - 1 + 49 ≡ first + 48 = omega arith in
    let from : first - 1 + 1 ≡ first = omega arith in
    rw (steps, from, drop-set room first digit within, is) (sym (more_of (first + 49) (first + 48) left (drop (first + 1) room) (omega arith) large))

-- the first digit, which is the last one written
pub last_written : (first left : ℕ) (room : List ℕ) (digit : ℕ) → left < 16 → first < length room → length room ≡ 16 → digit ≡ digit_glyph false (left % 16) → take (16 - first) (drop first (set room first digit)) ≡ digits_onto (first + 49) 16 false left (drop (first + 1) room)
last_written first left room digit small within whole is =
    let written = set room first digit in
    let rest : take (16 - first) (drop first written) ≡ drop first written = take_all (16 - first) (drop first written) (omega (arith, length-drop first written, length-set room first digit)) in
    rw (rest, drop-set room first digit within, is) (sym (last_of (first + 49) (first + 48) left (drop (first + 1) room) (omega arith) small))

-- a number of two digits or more needs room for another one
pub some_left : (left first : ℕ) → left < 16 ^ (first + 1) → 16 ≤ left → 1 ≤ first
some_left left zero small large = absurd (omega arith)
some_left left (suc first) small large = omega arith

pub fewer_left : (left first : ℕ) → left < 16 ^ (first + 1) → 1 ≤ first → left / 16 < 16 ^ (first - 1 + 1)
fewer_left left first small some = let from : first - 1 + 1 ≡ first = omega arith in rw from (omega (arith, small, pow_more 16 first))
