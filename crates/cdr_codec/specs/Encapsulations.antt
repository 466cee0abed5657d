-- An encapsulation is octets, of which the first is a byte order. Places begin anew at that octet.
use Rattle.std.specs.Prelude.{◌≡◌, ℕ, zero, suc, ◌+◌, List, [], ◌∷◌, ◌++◌, length, slice_get, Some, ◌<◌, ◌^◌, Result, Ok, Err}
use Rattle.cdr_codec.specs.declared.orders.Order.{Order}
use Rattle.cdr_codec.specs.declared.orders.Order.TheVariants.{Big, Little}
use Rattle.cdr_codec.specs.declared.faults.CdrWhy.{CdrWhy}
use Rattle.cdr_codec.specs.declared.faults.CdrWhy.TheVariants.{Short, BadOrder}
use Rattle.cdr_codec.specs.Orders.{order_sign}
use Rattle.cdr_codec.specs.Reading.{Reader, reader_at, Fault, fault_at, Read, ◌>>=◌}
use Rattle.cdr_codec.specs.Formats.{Spelling, Format}
use Rattle.cdr_codec.specs.Calls.{Writer}

-- the text of a writer that began an encapsulation
pub record IsEncapsulated (w : Writer) : Type 0 where
  pub starts : w.place ≡ 0
  pub sign : slice_get w.text 0 ≡ Some (order_sign w.order)
  pub short : length w.text < 2 ^ 32

-- the writer that began an encapsulation: its byte order is written
abbrev pub begun : Order → Writer
begun order = record { order = order; place = 0; text = order_sign order ∷ [] }

-- the encapsulation of a value, in this byte order
abbrev pub encapsulated : {X : Type 0} → Order → Format CdrWhy X → X → List ℕ
encapsulated order f x = order_sign order ∷ f.written order 1 x

-- the reader stands behind the byte order of the piece, which is its own
pub record IsOpened (piece : List ℕ) (r : Reader) : Type 0 where
  pub is : piece ≡ order_sign r.order ∷ r.rest
  pub behind : r.place ≡ 1

-- the piece begins with no byte order
abbrev pub IsUnopened : List ℕ → Type 0
IsUnopened piece = (r : Reader) → IsOpened piece r → ⊥

-- the piece is a byte order, a spelling of the value, and whatever follows it
pub record Encapsulates {X : Type 0} (spells : Spelling X) (piece : List ℕ) (x : X) : Type 0 where
  pub order : Order
  pub bytes : List ℕ
  pub more : List ℕ
  pub is : piece ≡ order_sign order ∷ (bytes ++ more)
  pub spelled : spells order 1 x bytes

abbrev pub opened_in : ℕ → List ℕ → Result Reader (Fault CdrWhy)
opened_in zero rest = Ok (reader_at Big 1 rest)
opened_in (suc zero) rest = Ok (reader_at Little 1 rest)
opened_in (suc (suc n)) rest = Err (fault_at BadOrder 0)

-- the reader of what is inside
abbrev pub opened : List ℕ → Result Reader (Fault CdrWhy)
opened [] = Err (fault_at Short 0)
opened (sign ∷ rest) = opened_in sign rest

abbrev pub inside : {X : Type 0} → Format CdrWhy X → List ℕ → Read CdrWhy X
inside f piece = opened piece >>= λ r. f.read r

-- the value inside; more may follow it
abbrev pub held : {X : Type 0} → Format CdrWhy X → List ℕ → Result X (Fault CdrWhy)
held f piece = inside f piece >>= λ x. Ok x.0

pub record IsInside {X : Type 0} (f : Format CdrWhy X) : Type 0 where
  -- what is read is spelled inside
  pub found : (piece : List ℕ) (y : X × Reader) → inside f piece ≡ Ok y → Encapsulates f.Spelled piece y.0
  -- what is spelled inside is read
  pub again : (piece : List ℕ) (x : X) (e : Encapsulates f.Spelled piece x)
      → inside f piece ≡ Ok (x, reader_at e.order (1 + length e.bytes) e.more)
