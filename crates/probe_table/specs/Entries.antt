-- A table, as the hash under which each number is entered.
use Rattle.std.specs.Prelude.{ℕ, ◌-◌, ◌++◌, List, Option, None, length, replicate, slice_index_or}

-- the hash under which a number is entered; a number past the last isn't
abbrev pub hash_of : List (Option ℕ) → ℕ → Option ℕ
hash_of table number = slice_index_or table number None

-- a table for so many numbers, of which the first have these hashes; the others aren't entered
abbrev pub table_of : ℕ → List (Option ℕ) → List (Option ℕ)
table_of count hashes = hashes ++ replicate (count - length hashes) None
