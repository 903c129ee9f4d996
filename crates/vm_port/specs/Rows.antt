-- A list as a finite map.
use Rattle.std.specs.Prelude.{ℕ, ◌+◌, List, [], ◌∷◌, Option, Some, None}
use Rattle.std.specs.Ordering.{nat_cmp}
use Rattle.std.specs.FinMap.{FinMap, empty, insert}

abbrev pub put_some : {X : Type 0} → ℕ → Option X → FinMap nat_cmp X → FinMap nat_cmp X
put_some n None m = m
put_some n (Some x) m = insert m n x

-- its elements that are there, the first at number n and each further one at the next
abbrev pub from_row : {X : Type 0} → ℕ → List (Option X) → FinMap nat_cmp X
from_row n [] = empty
from_row n (x ∷ xs) = put_some n x (from_row (n + 1) xs)
