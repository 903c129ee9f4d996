-- A line, cut at its spaces one after another.
use Rattle.std.proofs.Common.{◌≡◌, ◌==◌, ◌+◌, ◌<◌, ◌≤◌, ℕ, Bool, cond, nat_lt, List, [], ◌∷◌, length, take, drop, Some, None, ap, subst, arith, inl, inr}
use Rattle.std.specs.Prelude.{position}
use Rattle.std.specs.List.{slice_split, position_or_len}
use Rattle.std.proofs.lemmas.Bool.{cases_lt, lt-ltb, le-ltb, cond-true}
use Rattle.std.proofs.lemmas.List.Splits.{slice_split_first, slice_split_none}
use Rattle.std.proofs.lemmas.List.Sums.{fails_before_first}
use Rattle.actor_script.specs.Words.{words_of}

abbrev is_space : ℕ → Bool
is_space b = b == 32

first_is : (text : List ℕ) (end : ℕ) → position is_space text ≡ Some end → (position_or_len is_space text < length text) × (position_or_len is_space text ≡ end)
first_is text end e =
    let at = position_or_len is_space text in
    elim (cases_lt at (length text)) [
      | inl h ↦ let some : position is_space text ≡ Some at = cond-true (nat_lt at (length text)) (Some at) None (lt-ltb at (length text) h) in (h, cc)
      | inr h ↦ let none : position is_space text ≡ None = ap (λ (b : Bool). cond b (Some at) None) (le-ltb at (length text) h) in absurd (cc)
    ]

-- a space ends the first word
pub words_first : (text : List ℕ) (end : ℕ) → position is_space text ≡ Some end → words_of text ≡ take end text ∷ words_of (drop (end + 1) text)
unfolding words_of
words_first text end e =
    let first = first_is text end e in
    subst (λ (n : ℕ). slice_split is_space text ≡ take n text ∷ slice_split is_space (drop (n + 1) text)) first.1 (slice_split_first is_space text 0 first.0)

no_space : (text : List ℕ) → position is_space text ≡ None → length text ≤ position_or_len is_space text
no_space text e =
    let at = position_or_len is_space text in
    elim (cases_lt at (length text)) [
      | inl h ↦ let some : position is_space text ≡ Some at = cond-true (nat_lt at (length text)) (Some at) None (lt-ltb at (length text) h) in absurd (cc)
      | inr h ↦ h
    ]

-- no space: one word
pub words_last : (text : List ℕ) → position is_space text ≡ None → words_of text ≡ text ∷ []
unfolding words_of
words_last text e = slice_split_none is_space text (λ k d h. let all = no_space text e in fails_before_first is_space text k d (omega arith))
