-- Digits that are read many at once: their values, and the octets of their pairs.
use Rattle.std.specs.Prelude.{◌≡◌, ℕ, ◌+◌, ◌*◌, ◌<◌, nat_lt, if◌then◌else◌, List, true, slice_index, Some, None}
use Rattle.hex.specs.Hex.{hex_digit_value, is_hex_digit}

-- a byte's value as a digit: 16 or more where it is none
abbrev pub IsValue : ℕ → ℕ → Type 0
IsValue byte value = hex_digit_value byte ≡ if nat_lt value 16 then Some value else None

-- each of these values is a digit's
abbrev pub AreSmall : List ℕ → Type 0
AreSmall values = (k : ℕ) → slice_index values k < 16

-- the octet at this place is what its pair of bytes says, where both are digits
abbrev pub HasOctet : List ℕ → List ℕ → ℕ → Type 0
HasOctet word octets k =
    (high low : ℕ) → hex_digit_value (slice_index word (2 * k)) ≡ Some high → hex_digit_value (slice_index word (2 * k + 1)) ≡ Some low
    → slice_index octets k ≡ high * 16 + low

-- the bytes before this place are digits
abbrev pub AreDigits : List ℕ → ℕ → Type 0
AreDigits word n = (k : ℕ) → k < n → is_hex_digit (slice_index word k) ≡ true
