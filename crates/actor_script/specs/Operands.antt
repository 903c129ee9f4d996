-- What one word of a line says, where it has the form that is wanted there.
use Rattle.std.specs.Prelude.{◌==◌, ◌&&◌, ◌^◌, ℕ, true, false, List, [], ◌∷◌, length, nat_lt, nat_le, bytes_eq, codes, decimal, Option, Some, None, option_and_then, if◌then◌else◌}
use Rattle.std.specs.List.{list_all}
use Rattle.std.specs.Result.{result_ok}
use Rattle.std.specs.Str.Parse.{digits_value}
use Rattle.vm_ids.specs.declared.command.Prot.{Prot}
use Rattle.std.specs.Char.{is_digit}
use Rattle.hex.specs.Hex.{decode_of}

-- A number is spelled as it is printed: decimal, with no leading zero and no sign. It is below
-- 2^32.
abbrev pub number_if : ℕ → List ℕ → Option ℕ
number_if n word = if nat_lt n (2 ^ 32) && bytes_eq (decimal n) word then Some n else None

unfoldable pub number_of : List ℕ → Option ℕ
number_of word = number_if (digits_value 10 word) word

-- A number that isn't 0.
abbrev pub unless_zero : ℕ → Option ℕ
unless_zero n = if n == 0 then None else Some n

unfoldable pub count_of : List ℕ → Option ℕ
count_of word = option_and_then unless_zero (number_of word)

-- How many bytes a load takes, 1 to 64.
abbrev pub if_few : ℕ → Option ℕ
if_few n = if nat_le n 64 then Some n else None

unfoldable pub length_of : List ℕ → Option ℕ
length_of word = option_and_then if_few (count_of word)

-- The number behind the letter of its kind: 'a' for an actor, 'c' for a cache.
unfoldable pub lettered : ℕ → List ℕ → Option ℕ
lettered letter [] = None
lettered letter (b ∷ bs) = if b == letter then number_of bs else None

-- An address is 1 to 12 hexadecimal digits, in either case.
unfoldable pub address_of : List ℕ → Option ℕ
address_of word =
    if nat_le 1 (length word) && nat_le (length word) 12 && list_all (λ c. is_digit c 16) word
    then Some (digits_value 16 word)
    else None

-- Bytes are two hexadecimal digits each, in either case, and 1 to 64 of them.
unfoldable pub bytes_of : List ℕ → Option (List ℕ)
bytes_of word =
    if nat_le 2 (length word) && nat_le (length word) 128 then result_ok (decode_of word) else None

-- What a region allows: `r` for reading, `rw` for writing too.
unfoldable pub mode_of : List ℕ → Option Prot
mode_of word =
    if bytes_eq word (codes "r") then Some (record { write = false })
    else if bytes_eq word (codes "rw") then Some (record { write = true })
    else None
