-- As many actors as may be alive have different numbers.
use Rattle.std.proofs.Common.{◌≡◌, ◌≢◌, ◌≤◌, ◌-◌, ℕ, suc, List, [], ◌∷◌, length, Option, Some, refl, sym, ap, subst, arith}
use Rattle.std.specs.Prelude.{IsSome, option_and_then, slice_get}
use Rattle.std.specs.List.{AllByRecursion}
use Rattle.vm_model.specs.Machine.{Actor, Machine, actor_of, living_actors, numbered}
use Rattle.vm_model.specs.declared.limits.TheConstants.{LIVING_ACTORS}
use Rattle.vm_model.proofs.Parts.Distinct.{AreDistinct, IsThere, distinct_few}
use Rattle.vm_model.proofs.Parts.Lists.{is_there, numbered_place}

-- numbers from 1 as places from 0
abbrev places : List ℕ → List ℕ
places [] = []
places (n ∷ ns) = (n - 1) ∷ places ns

-- each has a living actor
abbrev AreAlive : List (Option Actor) → List ℕ → Type 0
AreAlive xs ns = AllByRecursion (λ n. IsSome (numbered xs n)) ns

-- no number is 0
some_number : (xs : List (Option Actor)) (n : ℕ) → IsSome (numbered xs n) → 1 ≤ n
some_number xs n h = let is = is_there (numbered xs n) h in (numbered_place xs n is.0 is.1).0

at_place : (xs : List (Option Actor)) (n : ℕ) → IsSome (numbered xs n) → IsThere xs (n - 1)
at_place xs n h =
    let is = is_there (numbered xs n) h in
    let at : slice_get xs (n - 1) ≡ Some (Some is.0) = (numbered_place xs n is.0 is.1).1 in
    subst (λ (o : Option (Option Actor)). IsSome (option_and_then (λ x. x) o)) (sym at) refl

places_apart : (xs : List (Option Actor)) (n : ℕ) (ns : List ℕ) → IsSome (numbered xs n) → AreAlive xs ns → AllByRecursion (λ m. n ≢ m) ns → AllByRecursion (λ m. (n - 1) ≢ m) (places ns)
places_apart xs n [] here alive h = tt
places_apart xs n (m ∷ ns) here alive h =
    let some : 1 ≤ n = some_number xs n here in
    let other : 1 ≤ m = some_number xs m alive.0 in
    ((λ e. h.0 (omega (arith, e, some, other))), places_apart xs n ns here alive.1 h.1)

places_distinct : (xs : List (Option Actor)) (ns : List ℕ) → AreAlive xs ns → AreDistinct ns → AreDistinct (places ns)
places_distinct xs [] alive h = tt
places_distinct xs (n ∷ ns) alive h = (places_apart xs n ns alive.0 alive.1 h.0, places_distinct xs ns alive.1 h.1)

places_there : (xs : List (Option Actor)) (ns : List ℕ) → AreAlive xs ns → AllByRecursion (IsThere xs) (places ns)
places_there xs [] alive = tt
places_there xs (n ∷ ns) alive = (at_place xs n alive.0, places_there xs ns alive.1)

places_length : (ns : List ℕ) → length (places ns) ≡ length ns
places_length [] = refl
places_length (n ∷ ns) = ap suc (places_length ns)

pub few_alive : (m : Machine) (ns : List ℕ) → living_actors m ≤ LIVING_ACTORS → AreDistinct ns → AllByRecursion (λ n. IsSome (actor_of m n)) ns → length ns ≤ 256
few_alive m ns few distinct alive =
    let most = distinct_few m.actors (places ns) (places_distinct m.actors ns alive distinct) (places_there m.actors ns alive) in
    omega (arith, most, places_length ns, few)
