-- Parameters: what the body of a request holds, and its canonical form.
use Rattle.std.specs.Prelude.{◌≡◌, ℕ, ◌+◌, Bool, false, ℤ, pos, List, [], ◌∷◌, ◌++◌, Some, Result, Ok, Err}
use Rattle.std.specs.Int.{w64}
use Rattle.ft_base.specs.Canonical.{one_of, type_of, values_at, AreOf}
use Rattle.ft_base.specs.declared.requests.Par.{Par}
use Rattle.ft_base.specs.declared.requests.Par.TheVariants.{I64, U32, Bool as Truth, Text, Octets}
use Rattle.ft_base.specs.declared.requests.Signature.{Signature}
use Rattle.ft_base.specs.declared.values.Value.{Value}
use Rattle.ft_base.specs.declared.values.Value.TheVariants as values
use Rattle.cdr_codec.specs.declared.orders.Order.{Order}
use Rattle.cdr_codec.specs.declared.orders.Order.TheVariants.{Big}
use Rattle.cdr_codec.specs.declared.faults.CdrWhy.{CdrWhy}
use Rattle.cdr_codec.specs.declared.faults.CdrWhy.TheVariants.{Short}
use Rattle.cdr_codec.specs.declared.bodies.Raw.{Raw}
use Rattle.cdr_codec.specs.Reading.{Reader, reader_at, Read}
use Rattle.cdr_codec.specs.Formats.{Writing, Format, number, octets, nothing, followed, judged}
use Rattle.cdr_codec.specs.Values.{boolean, text, signed}

-- what a value is, where it is of the type that is asked for
abbrev pub signed_of : Value → ℤ
signed_of (values.I64 n) = n
signed_of (values.U32 n) = pos 0
signed_of (values.Bool b) = pos 0
signed_of (values.Text t) = pos 0
signed_of (values.Octets xs) = pos 0

abbrev pub number_of : Value → ℕ
number_of (values.I64 n) = 0
number_of (values.U32 n) = n
number_of (values.Bool b) = 0
number_of (values.Text t) = 0
number_of (values.Octets xs) = 0

abbrev pub bool_in : Value → Bool
bool_in (values.I64 n) = false
bool_in (values.U32 n) = false
bool_in (values.Bool b) = b
bool_in (values.Text t) = false
bool_in (values.Octets xs) = false

abbrev pub bytes_of : Value → List ℕ
bytes_of (values.I64 n) = []
bytes_of (values.U32 n) = []
bytes_of (values.Bool b) = []
bytes_of (values.Text t) = t
bytes_of (values.Octets xs) = xs

-- a value of this type
abbrev pub param : Par → Format CdrWhy Value
param I64 = judged (signed w64) 8 Short (λ n. Some (values.I64 n)) signed_of
param U32 = judged (number 4) 4 Short (λ n. Some (values.U32 n)) number_of
param Truth = judged boolean 1 Short (λ b. Some (values.Bool b)) bool_in
param Text = judged text 4 Short (λ t. Some (values.Text t)) bytes_of
param Octets = judged octets 4 Short (λ xs. Some (values.Octets xs)) bytes_of

-- the one spelling of a value in an order, with padding of zeros
abbrev pub written_value : Writing Value
written_value order place v = (param (type_of v)).written order place v

abbrev pub first_and_rest : List Value → Value × List Value
first_and_rest [] = (values.U32 0, [])
first_and_rest (v ∷ vs) = (v, vs)

-- values of these types, one behind the other
abbrev pub params : List Par → Format CdrWhy (List Value)
params [] = nothing []
params (par ∷ pars) = judged (followed (param par) (λ v. params pars)) 1 Short (λ p. Some (p.0 ∷ p.1)) first_and_rest

-- the types of an operation's parameters
abbrev pub pars_of : Signature → List Par
pars_of signature = one_of signature.first ++ one_of signature.second

-- the body is a spelling of these values, at its place in its message, and nothing more
abbrev pub IsBody : Raw → List Par → List Value → Type 0
IsBody body pars values = (params pars).Spelled body.order body.align values body.bytes

abbrev pub body_reader : Raw → Reader
body_reader body = reader_at body.order body.align body.bytes

-- nothing may be left behind the last parameter
abbrev pub whole : {X : Type 0} → List ℕ → X × Reader → Result X ℕ
whole [] x = Ok x.0
whole (byte ∷ rest) x = Err x.1.place

abbrev pub whole_read : {X : Type 0} → Read CdrWhy X → Result X ℕ
whole_read (Ok x) = whole x.1.rest x
whole_read (Err e) = Err e.place

-- the values that are read up to the end, or the place at which reading stops
abbrev pub values_read : Reader → List Par → Result (List Value) ℕ
values_read r pars = whole_read ((params pars).read r)

-- the canonical form of what the body holds
pub record IsFormOf (args : List ℕ) (body : Raw) (pars : List Par) : Type 0 where
  pub values : List Value
  pub is : IsBody body pars values
  pub form : args ≡ values_at 0 values

-- reading stops at this place of the body, counted from its first byte
abbrev pub StopsAt : Raw → List Par → ℕ → Type 0
StopsAt body pars place = values_read (body_reader body) pars ≡ Err (body.align + place)

-- the body isn't the parameters, or is more
abbrev pub IsNoBody : Raw → List Par → Type 0
IsNoBody body pars = (values : List Value) → IsBody body pars values → ⊥

-- ---- the canonical form, read

-- what was read, spelled again at a multiple of 8
abbrev pub spelled_again : {W X : Type 0} → Format W X → Order → Read W X → List ℕ
spelled_again f order (Ok x) = f.written order 0 x.0
spelled_again f order (Err e) = []

-- the spelling, in this byte order and with padding of zeros, of the values whose canonical form these bytes are
abbrev pub reordered : Order → List Par → List ℕ → List ℕ
reordered order pars bytes = spelled_again (params pars) order ((params pars).read (reader_at Big 0 bytes))

-- the values of a canonical form, and their spelling in this byte order
pub record IsReordered (order : Order) (pars : List Par) (canonical bytes : List ℕ) : Type 0 where
  pub values : List Value
  pub typed : AreOf pars values
  pub form : canonical ≡ values_at 0 values
  pub is : bytes ≡ (params pars).written order 0 values

-- these bytes are the canonical form of values, which reading them gives
pub record IsReadAs (pars : List Par) (bytes : List ℕ) : Type 0 where
  pub values : List Value
  pub typed : AreOf pars values
  pub form : bytes ≡ values_at 0 values
  pub read : values_read (reader_at Big 0 bytes) pars ≡ Ok values
