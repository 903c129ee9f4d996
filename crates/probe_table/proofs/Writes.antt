-- A list of options under a write.
use Rattle.std.proofs.Common.{◌≡◌, ℕ, ◌<◌, List, length, get_or, Option, Some, None, arith}
use Rattle.std.specs.Option.{IsSome}
use Rattle.std.proofs.lemmas.Grind.{common_steps}

-- only a place inside the list has something
pub some_below : (xs : List (Option ℕ)) (i x : ℕ) → get_or xs i None ≡ Some x → i < length xs
some_below xs i x e = grind (arith, common_steps)

-- what was read at a place inside the list stands there
pub read_is : (xs : List (Option ℕ)) (i : ℕ) (o p : Option ℕ) → i < length xs → o ≡ get_or xs i o → o ≡ p → get_or xs i None ≡ p
read_is xs i o p within read is = grind (arith, common_steps)

-- a place that has something is inside the list
pub some_within : (xs : List (Option ℕ)) (i : ℕ) → IsSome (get_or xs i None) → i < length xs
some_within xs i some = grind (arith, common_steps)
