-- Parameters that are read from one text and written to another at once.
use Rattle.std.specs.Prelude.{◌≡◌, ℕ, ◌-◌, List, Result, Ok, Err}
use Rattle.ft_base.specs.declared.requests.Par.{Par}
use Rattle.cdr_codec.specs.declared.orders.Order.{Order}
use Rattle.cdr_codec.specs.declared.faults.CdrWhy.{CdrWhy}
use Rattle.cdr_codec.specs.declared.bodies.ArgsFault.{ArgsFault}
use Rattle.cdr_codec.specs.declared.bodies.ArgsFault.TheVariants as faults
use Rattle.cdr_codec.specs.declared.faults.FieldFault.{FieldFault}
use Rattle.cdr_codec.specs.Reading.{Reader, Read, ◌>>=◌}
use Rattle.cdr_codec.specs.Formats.{Format}
use Rattle.cdr_codec.specs.Arguments.{values_read}
use Rattle.ft_base.specs.Canonical.{values_at}
use Rattle.cdr_codec.specs.Calls.{field_fault, Fails, Writer, appended}

-- the writer behind the value that is read, and the reader behind it
abbrev pub copied : {X : Type 0} → Format CdrWhy X → Reader → Writer → Read CdrWhy Writer
copied f r w = f.read r >>= λ v. Ok (appended f.written v.0 w, v.1)

abbrev pub Copies : {X Y : Type 0} → Format CdrWhy X → Result Y FieldFault → Reader → Reader → Writer → Writer → Type 0
Copies f (Ok y) reader reader' writer writer' = copied f reader writer ≡ Ok (writer', reader')
Copies f (Err e) reader reader' writer writer' = Fails (field_fault e) (f.read reader)

-- the spelling in this order of a value that was read
abbrev pub formed : {X : Type 0} → Order → Format CdrWhy X → X × Reader → Read CdrWhy (List ℕ)
formed order f v = Ok (f.written order 0 v.0, v.1)

-- the spelling in this order of the value that is read, and the reader behind it
abbrev pub FormsOf : {X : Type 0} → Order → Format CdrWhy X → Result (List ℕ) FieldFault → Reader → Reader → Type 0
FormsOf order f (Ok bytes) reader reader' = (f.read reader >>= formed order f) ≡ Ok (bytes, reader')
FormsOf order f (Err e) reader reader' = Fails (field_fault e) (f.read reader)

abbrev pub OnBad : Result (List ℕ) ArgsFault → (ℕ → Type 0) → Type 0
OnBad (Ok args) P = Unit {0}
OnBad (Err (faults.Bad place)) P = P place
OnBad (Err faults.NoMemory) P = Unit {0}

-- the canonical form of what stands there up to the end, or the place at which reading stops
abbrev pub IsArgs : Reader → List Par → Result (List ℕ) ArgsFault → Type 0
IsArgs r pars (Ok args) = (values_read r pars >>= λ values. Ok (values_at 0 values)) ≡ Ok args
IsArgs r pars (Err (faults.Bad place)) = (at : ℕ) × (values_read r pars ≡ Err at) × (place ≡ at - r.place)
IsArgs r pars (Err faults.NoMemory) = Unit {0}
