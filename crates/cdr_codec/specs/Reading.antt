-- Reading as a function on lists of bytes: where a reader stands, what is read there, and the first fault.
use Rattle.std.specs.Prelude.{ℕ, ◌+◌, nat_lt, if◌then◌else◌, List, ◌++◌, length, take, drop, Result, Ok, Err}
use Rattle.byteorder.specs.Endian.{big_number, little_number, big_bytes, little_bytes}
use Rattle.ft_base.specs.Canonical.{padding}
use Rattle.cdr_codec.specs.declared.orders.Order.{Order}
use Rattle.cdr_codec.specs.declared.orders.Order.TheVariants.{Big, Little}
use Rattle.cdr_codec.specs.declared.faults.CdrWhy.{CdrWhy}
use Rattle.cdr_codec.specs.declared.faults.CdrWhy.TheVariants.{Short}

-- the byte order, the place of the next byte, and the bytes from there to the end
pub record Reader : Type 0 where
  pub order : Order
  pub place : ℕ
  pub rest : List ℕ

abbrev pub reader_at : Order → ℕ → List ℕ → Reader
reader_at order place rest = record { order = order; place = place; rest = rest }

-- the same reader, of a text that goes on
abbrev pub longer : Reader → List ℕ → Reader
longer r more = reader_at r.order r.place (r.rest ++ more)

-- what is wrong, and the place of the value in which it is
pub record Fault (W : Type 0) : Type 0 where
  pub why : W
  pub place : ℕ

abbrev pub fault_at : {W : Type 0} → W → ℕ → Fault W
fault_at why place = record { why = why; place = place }

-- a value and the reader behind it, or the first fault
abbrev pub Read : Type 0 → Type 0 → Type 0
Read W X = Result (X × Reader) (Fault W)

infixl 10 ◌>>=◌
abbrev pub ◌>>=◌ : {A B E : Type 0} → Result A E → (A → Result B E) → Result B E
(Ok x) >>= f = f x
(Err e) >>= f = Err e

-- the place at which a value of this size begins, behind its padding
abbrev pub start : ℕ → ℕ → ℕ
start size place = place + padding place size

-- the next count bytes behind skip others; where there are too few, the fault has this place
abbrev pub taken : ℕ → ℕ → ℕ → Reader → Read CdrWhy (List ℕ)
taken skip count place r =
    if nat_lt (length r.rest) (skip + count) then Err (fault_at Short place)
    else Ok (take count (drop skip r.rest), reader_at r.order (r.place + (skip + count)) (drop (skip + count) r.rest))

-- the number in these digits
abbrev pub number_in : Order → ℕ → List ℕ → ℕ
number_in Big size digits = big_number size digits
number_in Little size digits = little_number size digits

-- the digits of a number
abbrev pub digits_in : Order → ℕ → ℕ → List ℕ
digits_in Big size n = big_bytes size n
digits_in Little size n = little_bytes size n

-- the digits of a number of this size, behind its padding
abbrev pub digits_at : ℕ → Reader → Read CdrWhy (List ℕ)
digits_at size r = taken (padding r.place size) size (start size r.place) r
