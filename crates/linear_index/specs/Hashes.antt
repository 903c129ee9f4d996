-- The hash of a key, and the bucket of a hash.
use Rattle.std.specs.Prelude.{ℕ, ◌+◌, ◌*◌, ◌/◌, ◌%◌, ◌^◌, nat_lt, if◌then◌else◌, bit_and}

-- the upper half of a product by 2^64 over the golden ratio, the same for sixteen keys, and the key
unfoldable pub hash_of : ℕ → ℕ
hash_of key = (key / 16 * 0x9e37_79b9_7f4a_7c15 % 2 ^ 64 / 2 ^ 32 + key) % 2 ^ 64

-- the bucket of the last bits of a hash, or of one bit less where that bucket isn't there yet
unfoldable pub bucket_of : ℕ → ℕ → ℕ → ℕ
bucket_of mask buckets hash =
    if nat_lt (bit_and hash mask) buckets then bit_and hash mask else bit_and hash (mask / 2)

-- the mask for one bucket more than so many: one bit more where each has a bucket already
abbrev pub mask_for : ℕ → ℕ → ℕ
mask_for mask buckets = if nat_lt mask buckets then 2 * mask + 1 else mask
