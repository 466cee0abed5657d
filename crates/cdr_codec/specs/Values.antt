-- Booleans, strings and signed numbers.
use Rattle.std.specs.Prelude.{ℕ, ◌+◌, ◌==◌, zero, suc, Bool, true, false, if◌then◌else◌, ℤ, List, [], ◌∷◌, ◌++◌, length, take, Option, Some, None}
use Rattle.std.specs.Int.{Width, byte_len, cast_signed, cast_unsigned}
use Rattle.ft_base.specs.Text.{zero_place}
use Rattle.cdr_codec.specs.declared.faults.CdrWhy.{CdrWhy}
use Rattle.cdr_codec.specs.declared.faults.CdrWhy.TheVariants.{Short, BadBool, BadString}
use Rattle.cdr_codec.specs.Formats.{Format, number, octets, judged}

-- a boolean is one octet, 0 or 1
abbrev pub bool_of : ℕ → Option Bool
bool_of zero = Some false
bool_of (suc zero) = Some true
bool_of (suc (suc n)) = None

abbrev pub bool_sign : Bool → ℕ
bool_sign b = if b then 1 else 0

abbrev pub boolean : Format CdrWhy Bool
boolean = judged (number 1) 1 BadBool bool_of bool_sign

-- a string is its octets with one zero byte, at the end
abbrev pub text_up_to : List ℕ → Option ℕ → Option (List ℕ)
text_up_to xs None = None
text_up_to xs (Some n) = if n + 1 == length xs then Some (take n xs) else None

abbrev pub text_of : List ℕ → Option (List ℕ)
text_of xs = text_up_to xs (zero_place xs)

abbrev pub text : Format CdrWhy (List ℕ)
text = judged octets 4 BadString text_of (λ t. t ++ 0 ∷ [])

-- a signed number is the two's complement of its width
abbrev pub signed : Width → Format CdrWhy ℤ
signed w = judged (number (byte_len w)) (byte_len w) Short (λ n. Some (cast_signed w n)) (cast_unsigned w)
