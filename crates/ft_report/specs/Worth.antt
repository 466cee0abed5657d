-- What a result's value is as it is printed.
use Rattle.std.specs.Prelude.{◌≡◌, ℕ, pos, List, [], ◌∷◌, Option, Some, None, Ok, Err}
use Rattle.ft_base.specs.Canonical.{one_of, values_at, AreOf}
use Rattle.ft_base.specs.declared.requests.Par.{Par}
use Rattle.ft_base.specs.declared.values.Value.{Value}
use Rattle.ft_base.specs.declared.values.Value.TheVariants as values
use Rattle.cdr_codec.specs.Arguments.{param}
use Rattle.cdr_codec.specs.Reading.{Read, reader_at}
use Rattle.cdr_codec.specs.declared.faults.CdrWhy.{CdrWhy}
use Rattle.cdr_codec.specs.declared.orders.Order.TheVariants.{Big}
use Rattle.ft_report.specs.declared.outcomes.Worth.{Worth}
use Rattle.ft_report.specs.declared.outcomes.Worth.TheVariants as worths

-- a value: a text as its octets
abbrev pub printed_value : Value → Worth
printed_value (values.I64 number) = worths.Number number
printed_value (values.U32 number) = worths.Number (pos number)
printed_value (values.Bool flag) = worths.Flag flag
printed_value (values.Text text) = worths.Octets text
printed_value (values.Octets octets) = worths.Octets octets

-- the value that was read
abbrev pub worth_read : Read CdrWhy Value → Worth
worth_read (Ok found) = printed_value found.0
worth_read (Err fault) = worths.Void

-- the value that is read from its canonical form, of the type that an operation gives; void where it gives none
unfoldable pub worth_in : Option Par → List ℕ → Worth
worth_in None bytes = worths.Void
worth_in (Some par) bytes = worth_read ((param par).read (reader_at Big 0 bytes))

-- the one value, if there is one
abbrev pub worth_of : List Value → Worth
worth_of [] = worths.Void
worth_of (value ∷ rest) = printed_value value

-- the bytes are the canonical form of a value, of the type that an operation gives, and this is what is printed of it
pub record IsWorth (gives : Option Par) (bytes : List ℕ) (printed : Worth) : Type 0 where
  pub values : List Value
  pub typed : AreOf (one_of gives) values
  pub form : bytes ≡ values_at 0 values
  pub is : printed ≡ worth_of values
