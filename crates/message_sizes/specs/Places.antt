-- Where what is written in a message ends.
use Rattle.std.specs.Prelude.{ℕ, ◌+◌, length}
use Rattle.cdr_codec.specs.declared.orders.Order.TheVariants.{Big}
use Rattle.cdr_codec.specs.Reading.{start}
use Rattle.cdr_codec.specs.Formats.{Writing}

-- the place behind a value that is written at a place
abbrev pub behind : {X : Type 0} → Writing X → ℕ → X → ℕ
behind written place x = place + length (written Big place x)

-- behind a number of 4 bytes
abbrev pub number_end : ℕ → ℕ
number_end place = start 4 place + 4

-- behind a text of so many bytes, which its NUL follows
abbrev pub text_end : ℕ → ℕ → ℕ
text_end place count = number_end place + count + 1
