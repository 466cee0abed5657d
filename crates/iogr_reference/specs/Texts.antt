-- References as texts: `IOR:`, and the hexadecimal digits of an encapsulation. (GIOP chapter,
-- "Stringified object references".)
use Rattle.std.specs.Prelude.{ℕ, ◌==◌, ◌&&◌, ◌||◌, Bool, false, not, if◌then◌else◌, List, [], ◌∷◌, ◌++◌, length, drop, position, codes, Option, Some, None, Result, Ok, Err}
use Rattle.hex.specs.Hex.{encode_lower, decode_of, is_hex_digit}
use Rattle.hex.specs.declared.error.FromHexError.{FromHexError}
use Rattle.cdr_codec.specs.declared.faults.CdrWhy.{CdrWhy}
use Rattle.cdr_codec.specs.Reading.{Fault, ◌>>=◌}
use Rattle.iogr_reference.specs.declared.references.Ior.{Ior}
use Rattle.iogr_reference.specs.declared.faults.TextFault.{TextFault}
use Rattle.iogr_reference.specs.declared.faults.TextFault.TheVariants as texts
use Rattle.iogr_reference.specs.Formats.{ior}
use Rattle.cdr_codec.specs.declared.orders.Order.TheVariants.{Big}
use Rattle.cdr_codec.specs.Encapsulations.{encapsulated, held}

abbrev pub text_of : Ior → List ℕ
text_of r = codes "IOR:" ++ encode_lower (encapsulated Big ior r)

abbrev pub is_either : ℕ → ℕ → ℕ → Bool
is_either byte upper lower = byte == upper || byte == lower

-- `IOR:`, each letter in either case
abbrev pub has_prefix : List ℕ → Bool
has_prefix [] = false
has_prefix (i ∷ []) = false
has_prefix (i ∷ o ∷ []) = false
has_prefix (i ∷ o ∷ r ∷ []) = false
has_prefix (i ∷ o ∷ r ∷ colon ∷ digits) = is_either i 73 105 && (is_either o 79 111 && (is_either r 82 114 && colon == 58))

abbrev pub place_or_length : ℕ → Option ℕ → ℕ
place_or_length count None = count
place_or_length count (Some place) = place

-- the place of the first that is no digit, or how many there are
abbrev pub digits_place : List ℕ → ℕ
digits_place digits = place_or_length (length digits) (position (λ digit. not (is_hex_digit digit)) digits)

abbrev pub octets_or_place : List ℕ → Result (List ℕ) FromHexError → Result (List ℕ) TextFault
octets_or_place digits (Ok octets) = Ok octets
octets_or_place digits (Err e) = Err (texts.Digits (digits_place digits))

-- the octets of an even number of digits, in either case
abbrev pub octets_in : List ℕ → Result (List ℕ) TextFault
octets_in digits = octets_or_place digits (decode_of digits)

abbrev pub ior_or_bad : Result Ior (Fault CdrWhy) → Result Ior TextFault
ior_or_bad (Ok r) = Ok r
ior_or_bad (Err wrong) = Err (texts.Bad (record { why = wrong.why; place = wrong.place }))

abbrev pub ior_in_digits : List ℕ → Result Ior TextFault
ior_in_digits digits = octets_in digits >>= λ octets. ior_or_bad (held ior octets)

-- the reference that a text spells, or the first cause for which it spells none
abbrev pub ior_in_text : List ℕ → Result Ior TextFault
ior_in_text text =
    if has_prefix text then ior_in_digits (drop 4 text) else Err texts.NoPrefix
