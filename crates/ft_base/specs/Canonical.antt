-- Values, and the canonical form of a list of them: big endian, padding of zeros, the first byte at
-- place 0. (GIOP chapter, CDR transfer syntax.)
use Rattle.std.specs.Prelude.{◌≡◌, ℕ, ◌+◌, ◌-◌, ◌%◌, ◌^◌, ◌<◌, Bool, if◌then◌else◌, ℤ, List, [], ◌∷◌, ◌++◌, length, replicate, Option, Some, None}
use Rattle.std.specs.Int.{cast_unsigned, w64}
use Rattle.std.specs.Int.RustNames.{FitsSigned}
use Rattle.byteorder.specs.Endian.{big_bytes}
use Rattle.ft_base.specs.Text.{zero_place}
use Rattle.ft_base.specs.declared.requests.Par.{Par}
use Rattle.ft_base.specs.declared.requests.Par.TheVariants.{I64, U32, Bool as Truth, Text, Octets}
use Rattle.ft_base.specs.declared.values.Value.{Value}
use Rattle.ft_base.specs.declared.values.Value.TheVariants as values

-- how many bytes stand before a value of this size, which begins at a multiple of its size
abbrev pub padding : ℕ → ℕ → ℕ
padding place size = (size - place % size) % size

-- a number of this size in big endian order, after its padding
abbrev pub number_at : ℕ → ℕ → ℕ → List ℕ
number_at size place n = replicate (padding place size) 0 ++ big_bytes size n

-- a text without zero bytes, with its length and its NUL
abbrev pub text_at : ℕ → List ℕ → List ℕ
text_at place text = number_at 4 place (length text + 1) ++ text ++ 0 ∷ []

-- octets, with their count
abbrev pub octets_at : ℕ → List ℕ → List ℕ
octets_at place octets = number_at 4 place (length octets) ++ octets

abbrev pub type_of : Value → Par
type_of (values.I64 n) = I64
type_of (values.U32 n) = U32
type_of (values.Bool b) = Truth
type_of (values.Text text) = Text
type_of (values.Octets octets) = Octets

-- the one spelling of a value at a place; a signed number is its two's complement, a boolean 0 or 1
abbrev pub value_at : ℕ → Value → List ℕ
value_at place (values.I64 n) = number_at 8 place (cast_unsigned w64 n)
value_at place (values.U32 n) = number_at 4 place n
value_at place (values.Bool b) = (if b then 1 else 0) ∷ []
value_at place (values.Text text) = text_at place text
value_at place (values.Octets octets) = octets_at place octets

-- a value that has a spelling
abbrev pub HasSpelling : Value → Type 0
HasSpelling (values.I64 n) = FitsSigned w64 n
HasSpelling (values.U32 n) = n < 2 ^ 32
HasSpelling (values.Bool b) = Unit {0}
HasSpelling (values.Text text) = (zero_place text ≡ None) × (length text + 1 < 2 ^ 32)
HasSpelling (values.Octets octets) = length octets < 2 ^ 32

-- the bytes are the one spelling, at this place, of some value of the type
abbrev pub IsValueAt : Par → ℕ → List ℕ → Type 0
IsValueAt I64 place bytes = (n : ℤ) × HasSpelling (values.I64 n) × (bytes ≡ value_at place (values.I64 n))
IsValueAt U32 place bytes = (n : ℕ) × HasSpelling (values.U32 n) × (bytes ≡ value_at place (values.U32 n))
IsValueAt Truth place bytes = (b : Bool) × (bytes ≡ value_at place (values.Bool b))
IsValueAt Text place bytes = (text : List ℕ) × HasSpelling (values.Text text) × (bytes ≡ value_at place (values.Text text))
IsValueAt Octets place bytes = (octets : List ℕ) × HasSpelling (values.Octets octets) × (bytes ≡ value_at place (values.Octets octets))

-- the bytes are the values of these types, one after another, and nothing more
abbrev pub AreValuesAt : List Par → ℕ → List ℕ → Type 0
AreValuesAt [] place bytes = bytes ≡ []
AreValuesAt (par ∷ pars) place bytes =
    (front : List ℕ) × (back : List ℕ) × (bytes ≡ front ++ back) × IsValueAt par place front
    × AreValuesAt pars (place + length front) back

abbrev pub one_of : Option Par → List Par
one_of None = []
one_of (Some par) = par ∷ []

-- the canonical form of some values of these types
abbrev pub IsCanonical : List Par → List ℕ → Type 0
IsCanonical pars bytes = AreValuesAt pars 0 bytes

-- the canonical form of these values, from a place on
abbrev pub values_at : ℕ → List Value → List ℕ
values_at place [] = []
values_at place (value ∷ rest) = value_at place value ++ values_at (place + length (value_at place value)) rest

-- values of these types, all of which have a spelling
abbrev pub AreOf : List Par → List Value → Type 0
AreOf [] [] = Unit {0}
AreOf [] (value ∷ rest) = ⊥
AreOf (par ∷ pars) [] = ⊥
AreOf (par ∷ pars) (value ∷ rest) = (type_of value ≡ par) × HasSpelling value × AreOf pars rest

-- values whose canonical form, from a place on, the bytes are
pub record AreSpelledAs (pars : List Par) (place : ℕ) (bytes : List ℕ) : Type 0 where
  pub values : List Value
  pub typed : AreOf pars values
  pub is : bytes ≡ values_at place values
