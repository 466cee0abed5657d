-- Numbers in words: decimal, of 1 to 20 digits, with any zeros in front (decimal_numbers); and with a sign, a
-- range, or a cap.
use Rattle.std.specs.Prelude.{ℕ, ◌-◌, ◌^◌, ◌==◌, Bool, nat_lt, min, if◌then◌else◌, List, Option, Some, None, option_map, option_and_then, ℤ, pos, negsuc, neg_ℤ, slice_index, drop}
pub use Rattle.decimal_numbers.specs.Numbers.{is_number, number}

-- the greatest number of 64 bits stands for every number above it
abbrev pub capped : ℕ → ℕ
capped value = min value (2 ^ 64 - 1)

-- the host whose number a word is, if it is a number
abbrev pub host_number : List ℕ → Option ℕ
host_number word = option_map capped (number word)

-- a number from 1
abbrev pub from_one : ℕ → Option ℕ
from_one value = if value == 0 then None else Some (capped value)

-- the number from 1 that a word is, if it is one
abbrev pub positive_number : List ℕ → Option ℕ
positive_number word = option_and_then from_one (number word)

-- a decimal: a number, or a minus and a number
abbrev pub decimal : List ℕ → Option ℤ
decimal word =
    if slice_index word 0 == 45 then option_map (λ n. neg_ℤ (pos n)) (number (drop 1 word))
    else option_map pos (number word)

-- from -range to range - 1
abbrev pub is_within : ℕ → ℤ → Bool
is_within range (pos n) = nat_lt n range
is_within range (negsuc n) = nat_lt n range

-- a value in that range
abbrev pub within : ℕ → ℤ → Option ℤ
within range value = if is_within range value then Some value else None

-- the signed number of 64 bits that a word is, if it is one
abbrev pub signed_64 : List ℕ → Option ℤ
signed_64 word = option_and_then (within (2 ^ 63)) (decimal word)

-- the same of 32 bits
abbrev pub signed_32 : List ℕ → Option ℤ
signed_32 word = option_and_then (within (2 ^ 31)) (decimal word)

-- a number below a limit
abbrev pub below : ℕ → ℕ → Option ℕ
below limit value = if nat_lt value limit then Some value else None

-- the number of 64 bits that a word is, if it is one
abbrev pub unsigned_64 : List ℕ → Option ℕ
unsigned_64 word = option_and_then (below (2 ^ 64)) (number word)

-- the same of 32 bits
abbrev pub unsigned_32 : List ℕ → Option ℕ
unsigned_32 word = option_and_then (below (2 ^ 32)) (number word)
