-- The hashes of plain numbers.
use Rattle.std.specs.Prelude.{ℕ, ◌+◌, ◌*◌, ◌/◌, ◌%◌, ◌^◌}

-- the upper half of a product by 2^64 over the golden ratio
unfoldable pub hash_of_key : ℕ → ℕ
hash_of_key key = key * 0x9e37_79b9_7f4a_7c15 % 2 ^ 64 / 2 ^ 32

-- the first number is spread by 2^64 over the plastic ratio before the second is added
unfoldable pub hash_of_pair : ℕ → ℕ → ℕ
hash_of_pair first second =
    hash_of_key ((first * 0xc13f_a9a9_02a6_328f % 2 ^ 64 + second) % 2 ^ 64)
