-- The lines of a generator, one after another.
use Rattle.std.proofs.Common.{◌≡◌, ◌+◌, ◌-◌, ◌/◌, ◌<◌, ◌≤◌, ℕ, decimal, zero, suc, List, [], ◌∷◌, length, take, drop, drop_of_length-le, Some, None, refl, sym, ap, arith, add-one, inl, inr, ◌∙◌}
use Rattle.std.specs.Prelude.{slice_get}
use Rattle.std.proofs.Math.Seq.{take-nil}
use Rattle.std.proofs.lemmas.Fmt.{decimal_digit}
use Rattle.std.proofs.lemmas.List.{drop_more, length-append, length-take}
use Rattle.std.proofs.lemmas.Option.{get_or_from_slice_get, slice_get_cases, slice_get_within}
use Rattle.actor_script.specs.Generator.{Position, drawn_line, drawn_lines, lines_from, opening}

-- no lines
pub lines_none : (at : Position) → lines_from at 0 ≡ []
unfolding lines_from drawn_lines
lines_none at = let none : 0 - length at.left ≡ 0 = omega arith in rw none refl

-- a line of the front
front_more : (line : List ℕ) (rest : List (List ℕ)) (state count : ℕ) → lines_from (record { left = line ∷ rest; state = state }) (count + 1) ≡ line ∷ lines_from (record { left = rest; state = state }) count
unfolding lines_from
front_more line rest state count =
    let behind : suc count - suc (length rest) ≡ count - length rest = omega arith in
    rw (add-one count, behind) refl

-- a line that is drawn, behind the front
behind_more : (state count : ℕ) → lines_from (record { left = []; state = state }) (count + 1) ≡ (drawn_line state).0 ∷ lines_from (record { left = []; state = (drawn_line state).1 }) count
unfolding lines_from drawn_lines
behind_more state count =
    let all : suc count - 0 ≡ suc count = omega arith in
    let rest : count - 0 ≡ count = omega arith in
    rw (add-one count, all, rest, take-nil {A = List ℕ} count) refl

drop_at : (xs : List (List ℕ)) (i : ℕ) (x : List ℕ) → slice_get xs i ≡ Some x → drop i xs ≡ x ∷ drop (i + 1) xs
drop_at xs i x e = drop_more xs i x (slice_get_within xs i x e) ∙ ap (λ y. y ∷ drop (i + 1) xs) (get_or_from_slice_get xs i x x e)

drop_past : (xs : List (List ℕ)) (i : ℕ) → slice_get xs i ≡ None → drop i xs ≡ []
drop_past xs i e = elim ((slice_get_cases xs i).1) [
  | inl found ↦ absurd (cc)
  | inr past ↦ drop_of_length-le xs {i = i} past.0
]

-- the next line stands in the front
pub given_more : (front : List (List ℕ)) (i state count : ℕ) (line : List ℕ) → slice_get front i ≡ Some line → lines_from (record { left = drop i front; state = state }) (count + 1) ≡ line ∷ lines_from (record { left = drop (i + 1) front; state = state }) count
given_more front i state count line e = rw (drop_at front i line e) (front_more line (drop (i + 1) front) state count)

-- or it is drawn
pub drawn_more : (front : List (List ℕ)) (i state count behind : ℕ) (line : List ℕ) → slice_get front i ≡ None → (line, behind) ≡ drawn_line state → lines_from (record { left = drop i front; state = state }) (count + 1) ≡ line ∷ lines_from (record { left = drop i front; state = behind }) count
drawn_more front i state count behind line e is =
    rw (drop_past front i e) (behind_more state count ∙ sym (ap (λ d. d.0 ∷ lines_from (record { left = []; state = d.1 }) count) is))

-- there are ten opening lines
pub opening_within : (place : ℕ) (line : List ℕ) → slice_get opening place ≡ Some line → place < 10
unfolding opening
opening_within place line e = slice_get_within opening place line e

drawn_so_many : (state count : ℕ) → length (drawn_lines state count) ≡ count
unfolding drawn_lines
drawn_so_many state zero = refl
drawn_so_many state (suc count) = ap suc (drawn_so_many (drawn_line state).1 count)

-- there are as many lines as are asked for
pub length-lines_from : (at : Position) (count : ℕ) → length (lines_from at count) ≡ count
unfolding lines_from
length-lines_from at count =
    let behind = count - length at.left in
    omega (arith, length-append (take count at.left) (drawn_lines at.state behind), length-take count at.left, drawn_so_many at.state behind)

-- the actor of a mapping
pub first_actor : (mapping : ℕ) → mapping < 2 → decimal (mapping / 2 + 1) ≡ 49 ∷ []
first_actor mapping h = let one : mapping / 2 + 1 ≡ 1 = omega arith in ap decimal one ∙ decimal_digit 1 (omega arith)

pub second_actor : (mapping : ℕ) → mapping < 4 → 2 ≤ mapping → decimal (mapping / 2 + 1) ≡ 50 ∷ []
second_actor mapping h k = let two : mapping / 2 + 1 ≡ 2 = omega arith in ap decimal two ∙ decimal_digit 2 (omega arith)
