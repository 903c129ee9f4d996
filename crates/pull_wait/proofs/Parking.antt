-- A list of parked accesses, and one more.
use Rattle.std.proofs.Common.{◌≡◌, ◌≢◌, ◌==◌, ◌<◌, ℕ, nat_lt, List, [], ◌∷◌, ◌++◌, length, get_or, None, Some, arith, inl, inr}
use Rattle.std.specs.Prelude.{position}
use Rattle.std.specs.List.{position_or_len}
use Rattle.std.proofs.lemmas.Bool.{cases_lt, cond-true, eqb-false, lt-ltb}
use Rattle.std.proofs.lemmas.List.Quantifiers.{all_pairs_push}
use Rattle.std.proofs.lemmas.List.Sums.{fails_before_first}
use Rattle.vm_ids.specs.declared.access.Parked.{Parked}
use Rattle.pull_wait.specs.Waiting.{IsOneOfEach, place_of}

-- where none of an actor is parked, each is of another one
none_of : (parked : List Parked) (actor : ℕ) → place_of parked actor ≡ None → (k : ℕ) (d : Parked) → k < length parked → (get_or parked k d).actor.0 ≢ actor
none_of parked actor none k d l =
    let test = λ (p : Parked). p.actor.0 == actor in
    let at = position_or_len test parked in
    elim (cases_lt at (length parked)) [
      | inl m ↦ let some : position test parked ≡ Some at = cond-true (nat_lt at (length parked)) (Some at) None (lt-ltb at (length parked) m) in absurd (cc)
      | inr m ↦ eqb-false (get_or parked k d).actor.0 actor (fails_before_first test parked k d (omega arith))
    ]

pub apart_push : (parked : List Parked) (p : Parked) → IsOneOfEach parked → place_of parked p.actor.0 ≡ None → IsOneOfEach (parked ++ p ∷ [])
apart_push parked p apart none =
    all_pairs_push (λ (x : Parked) (y : Parked). x.actor.0 ≢ y.actor.0) parked p apart (none_of parked p.actor.0 none)
