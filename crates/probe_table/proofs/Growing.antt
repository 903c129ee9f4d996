-- Tables of which the last numbers have no hash, and what they are once more have.
use Rattle.std.proofs.Common.{◌≡◌, ℕ, ◌+◌, ◌-◌, ◌<◌, ◌≤◌, List, ◌++◌, length, set, take, replicate, Option, None, sym, subst, arith}
use Rattle.std.specs.Option.{IsSome}
use Rattle.std.proofs.lemmas.List.{replicate-append-replicate, set-append_left, ext_get_or}
use Rattle.std.proofs.lemmas.Grind.{common_steps}
use Rattle.probe_table.specs.Entries.{hash_of, table_of}
use Rattle.probe_table.proofs.Writes.{some_within}

-- the numbers that have no hash aren't entered
pub hash_in : (count : ℕ) (hashes table : List (Option ℕ)) (number : ℕ) → table_of count hashes ≡ table → hash_of hashes number ≡ hash_of table number
hash_in count hashes table number seen = grind (arith, common_steps)

pub there_in : (count : ℕ) (hashes table : List (Option ℕ)) (number : ℕ) → table_of count hashes ≡ table → IsSome (hash_of table number) → number < length hashes
there_in count hashes table number seen some = some_within hashes number (subst IsSome (sym (hash_in count hashes table number seen)) some)

pub set_in : (count : ℕ) (hashes table : List (Option ℕ)) (number : ℕ) (hash : Option ℕ) → table_of count hashes ≡ table → number < length hashes → table_of count (set hashes number hash) ≡ set table number hash
set_in count hashes table number hash seen there = grind (arith, common_steps, set-append_left)

pub more_in : (count size : ℕ) (hashes : List (Option ℕ)) → length hashes ≤ size → size ≤ count → table_of count (hashes ++ replicate (size - length hashes) None) ≡ table_of count hashes
more_in count size hashes more within = grind (arith, common_steps, replicate-append-replicate)

-- the hashes of the numbers below one alone
abbrev pub hashes_below : List (Option ℕ) → ℕ → List (Option ℕ)
hashes_below hashes number = table_of (length hashes) (take number hashes)

pub size_below : (hashes : List (Option ℕ)) (number : ℕ) → number < length hashes → length (hashes_below hashes number) ≡ length hashes
size_below hashes number below = grind (arith, common_steps)

pub not_below : (hashes : List (Option ℕ)) (number : ℕ) → number < length hashes → hash_of (hashes_below hashes number) number ≡ None
not_below hashes number below = grind (arith, common_steps)

pub next_below : (hashes : List (Option ℕ)) (number : ℕ) → number < length hashes → hashes_below hashes (number + 1) ≡ set (hashes_below hashes number) number (hash_of hashes number)
next_below hashes number below = ext_get_or None (hashes_below hashes (number + 1)) (set (hashes_below hashes number) number (hash_of hashes number)) (grind (arith, common_steps)) (λ k within. grind (arith, common_steps))
