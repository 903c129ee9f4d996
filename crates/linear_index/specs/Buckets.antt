-- Buckets of places, each a chain. No public clause cites this module.
use Rattle.std.specs.Prelude.{◌≡◌, ◌↔◌, ℕ, ◌+◌, ◌/◌, ◌^◌, ◌<◌, ◌≤◌, ◌==◌, Bool, List, length, Option, Some, None, slice_index_or, bit_and}
use Rattle.linear_index.specs.declared.cell.Cell.{Cell}
use Rattle.linear_index.specs.Chains.{cell_at, key_at, Ends, IsIn}
use Rattle.linear_index.specs.Hashes.{bucket_of, hash_of}

-- the first place of a bucket
abbrev pub head_of : List (Option ℕ) → ℕ → Option ℕ
head_of heads bucket = slice_index_or heads bucket None

-- the bucket of a key, if there is one
abbrev pub bucket_by : ℕ → ℕ → Option ℕ → Option ℕ
bucket_by mask buckets None = None
bucket_by mask buckets (Some key) = Some (bucket_of mask buckets (hash_of key))

-- the bucket of the key at a place
abbrev pub bucket_at : ℕ → ℕ → List Cell → ℕ → Option ℕ
bucket_at mask buckets cells place = bucket_by mask buckets (key_at cells place)

-- the last bits of the hash of the key at a place are those of this bucket
abbrev pub is_for : List Cell → ℕ → ℕ → ℕ → Bool
is_for cells mask bucket place = bit_and (hash_of (cell_at cells place).key) mask == bucket

-- the chain from this place on has the places of the bucket, and no others
pub record IsBucket (cells : List Cell) (mask buckets : ℕ) (first : Option ℕ) (bucket : ℕ)
    : Type 0 where
  pub ends : Ends cells first
  pub places : (place : ℕ) → IsIn cells first place
      ↔ (bucket_at mask buckets cells place ≡ Some bucket)

-- there are as many buckets as the mask tells apart, or so many that one bit less is too few
pub record IsMask (mask buckets : ℕ) : Type 0 where
  pub bits : ℕ
  pub power : mask + 1 ≡ 2 ^ bits
  pub least : (mask + 1) / 2 ≤ buckets
  pub most : buckets ≤ mask + 1

-- each place with a key is in the chain of its bucket, of so many, and no key stands at two
pub record AreIn (buckets : ℕ) (heads : List (Option ℕ)) (cells : List Cell) (mask : ℕ)
    : Type 0 where
  pub masked : IsMask mask buckets
  pub some : (place key : ℕ) → key_at cells place ≡ Some key → 0 < buckets
  pub once : (place other key : ℕ) → key_at cells place ≡ Some key
      → key_at cells other ≡ Some key → place ≡ other
  pub chains : (bucket : ℕ) → bucket < buckets
      → IsBucket cells mask buckets (head_of heads bucket) bucket

-- there are buckets for the keys of the cells
abbrev pub IsHashed : List (Option ℕ) → List Cell → ℕ → Type 0
IsHashed heads cells mask = AreIn (length heads) heads cells mask

-- the same, with memory for as many places as there is room for
pub record IsIndexed (heads : List (Option ℕ)) (cells : List Cell)
    (mask room heads_limit cells_limit : ℕ) : Type 0 where
  pub hashed : IsHashed heads cells mask
  pub few : length cells ≤ room
  pub heads_room : room ≤ heads_limit
  pub cells_room : room ≤ cells_limit
