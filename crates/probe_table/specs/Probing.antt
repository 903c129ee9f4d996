-- Where numbers stand: each in one bucket, at or behind its home, with no empty bucket on the way.
use Rattle.std.specs.Prelude.{◌≡◌, ◌≢◌, ℕ, ◌*◌, ◌/◌, ◌^◌, ◌≤◌, ◌<◌, ◌==◌, Bool, false, List, length, Option, Some, None, is_some, slice_index_or, count_by, vec_capacity}
use Rattle.std.proofs.Common.{Vec, Global}
use Rattle.probe_table.specs.Entries.{hash_of}

-- what is in a bucket; nothing past the last
abbrev pub bucket : List (Option ℕ) → ℕ → Option ℕ
bucket buckets at = slice_index_or buckets at None

-- the first bucket at which a number may stand: there are twice as many homes as numbers
unfoldable pub home_of : ℕ → ℕ → ℕ
home_of count hash = hash * (2 * count) / 2 ^ 32

-- a walk from one index to another comes by no bucket with this in it
abbrev pub IsPassed : List (Option ℕ) → ℕ → ℕ → Option ℕ → Type 0
IsPassed buckets from to wanted = (at : ℕ) → from ≤ at → at < to → bucket buckets at ≢ wanted

-- this number is in the bucket
abbrev pub is_number : ℕ → Option ℕ → Bool
is_number number None = false
is_number number (Some other) = other == number

-- 1 for a number that is entered, and else 0
abbrev pub times : Option ℕ → ℕ
times None = 0
times (Some hash) = 1

-- the buckets agree with the hashes, and no number has an empty bucket but perhaps one on its way
pub record IsProbing (hashes buckets : List (Option ℕ)) (gap : ℕ) : Type 0 where
  pub few : length hashes ≤ 2 ^ 18
  pub room : length buckets ≡ 3 * length hashes
  pub once : (number : ℕ) → count_by (is_number number) buckets ≡ times (hash_of hashes number)
  pub taken : count_by is_some buckets ≡ count_by is_some hashes
  pub behind : (at number hash : ℕ) → bucket buckets at ≡ Some number
      → hash_of hashes number ≡ Some hash → home_of (length hashes) hash ≤ at
  pub reached : (at number hash : ℕ) → bucket buckets at ≡ Some number
      → hash_of hashes number ≡ Some hash → (on_way : ℕ) → home_of (length hashes) hash ≤ on_way
      → on_way < at → on_way ≢ gap → bucket buckets on_way ≢ None

-- the numbers that have hashes stand in the buckets, and there is room for all
pub record IsKept (count : ℕ) (hashes buckets : Vec (Option ℕ) Global) : Type 0 where
  pub probing : IsProbing hashes.items buckets.items (length buckets.items)
  pub few : count ≤ 2 ^ 18
  pub within : length hashes.items ≤ count
  pub hashes_room : count ≤ vec_capacity hashes
  pub buckets_room : 3 * count ≤ vec_capacity buckets
