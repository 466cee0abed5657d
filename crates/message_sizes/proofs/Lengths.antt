-- Where numbers and texts end.
use Rattle.std.proofs.Common.{◌≡◌, ℕ, List, [], ◌∷◌, ◌++◌, length, length-append, arith}
use Rattle.cdr_codec.specs.declared.orders.Order.TheVariants.{Big}
use Rattle.cdr_codec.specs.Formats.{written_number}
use Rattle.cdr_codec.specs.Values.{text}
use Rattle.cdr_codec.proofs.Lengths.{number_length}
use Rattle.message_sizes.specs.Places.{behind, number_end, text_end}

pub number_ends : (place n : ℕ) → behind (written_number 4) place n ≡ number_end place
number_ends place n = omega (arith, number_length 4 Big place n)

pub text_ends : (place : ℕ) (t : List ℕ) → behind text.written place t ≡ text_end place (length t)
text_ends place t =
    let octets = t ++ 0 ∷ [] in
    omega (
      arith,
      number_length 4 Big place (length octets),
      length-append (written_number 4 Big place (length octets)) octets,
      length-append t (0 ∷ []),
    )
