-- What the calls of readers and writers answer and leave.
use Rattle.std.specs.Prelude.{◌≡◌, ℕ, ◌+◌, List, [], ◌∷◌, ◌++◌, length, take, Option, Some, None, Result, Ok, Err}
use Rattle.cdr_codec.specs.declared.orders.Order.{Order}
use Rattle.cdr_codec.specs.declared.faults.CdrWhy.{CdrWhy}
use Rattle.cdr_codec.specs.declared.faults.CdrFault.{CdrFault}
use Rattle.cdr_codec.specs.declared.faults.FieldFault.{FieldFault}
use Rattle.cdr_codec.specs.declared.faults.FieldFault.TheVariants as fields
use Rattle.cdr_codec.specs.Reading.{Reader, Fault, fault_at, Read}
use Rattle.cdr_codec.specs.Formats.{Writing}

-- the fault that a CdrFault is
abbrev pub fault : CdrFault → Fault CdrWhy
fault e = fault_at e.why e.place

abbrev pub value_fault : CdrFault → Option (Fault CdrWhy)
value_fault e = Some (fault e)

-- the first value of a field that can't be read; none for want of memory
abbrev pub field_fault : FieldFault → Option (Fault CdrWhy)
field_fault (fields.Bad e) = Some (fault e)
field_fault fields.NoMemory = None

-- The call answered what is read there, seen by view, and went past it; or it answered the first
-- fault, and the reader stands where it stood.
abbrev pub Reads : {X Y : Type 0} → (X → Y) → (Reader → Read CdrWhy Y) → Result X CdrFault → Reader → Reader → Type 0
Reads view read (Ok x) old new = read old ≡ Ok (view x, new)
Reads view read (Err e) old new = (read old ≡ Err (fault e)) × (new ≡ old)

-- The same of a call for a value of many fields, whose answer may be want of memory too: then nothing
-- is said, and nothing of where the reader stands after a fault.
abbrev pub Fails : {W Y : Type 0} → Option (Fault W) → Read W Y → Type 0
Fails None read = Unit {0}
Fails (Some wrong) read = read ≡ Err wrong

abbrev pub Gives : {W X Y E : Type 0} → (X → Y) → (E → Option (Fault W)) → Result X E → Read W Y → Reader → Type 0
Gives view wrong (Ok x) read new = read ≡ Ok (view x, new)
Gives view wrong (Err e) read new = Fails (wrong e) read

-- The same of a call that shows no reader: it answered this, seen by view, or what is wrong; nothing is
-- said of want of memory.
abbrev pub FailsIn : {X F : Type 0} → Option F → Result X F → Type 0
FailsIn None what = Unit {0}
FailsIn (Some wrong) what = what ≡ Err wrong

abbrev pub Tells : {X Y E F : Type 0} → (X → Y) → (E → Option F) → Result X E → Result Y F → Type 0
Tells view wrong (Ok x) what = what ≡ Ok (view x)
Tells view wrong (Err e) what = FailsIn (wrong e) what

-- a fact of each refusal that isn't want of memory
abbrev pub OnFault : {F : Type 0} → Option F → Type 0 → Type 0
OnFault None P = Unit {0}
OnFault (Some wrong) P = P

abbrev pub Refuses : {X E F : Type 0} → (E → Option F) → Result X E → Type 0 → Type 0
Refuses wrong (Ok x) P = Unit {0}
Refuses wrong (Err e) P = OnFault (wrong e) P

-- the byte order, the place of the text's first byte, and the text so far
pub record Writer : Type 0 where
  pub order : Order
  pub place : ℕ
  pub text : List ℕ

-- the writer behind a value
abbrev pub appended : {X : Type 0} → Writing X → X → Writer → Writer
appended written x w = record w { text = w.text ++ written w.order (w.place + length w.text) x }

-- the writer behind the elements of a list
abbrev pub appended_each : {X : Type 0} → Writing X → List X → Writer → Writer
appended_each written [] w = w
appended_each written (x ∷ xs) w = appended_each written xs (appended written x w)

-- what stood in the text before still stands at its front
abbrev pub Keeps : Writer → Writer → Type 0
Keeps before after = record after { text = take (length before.text) after.text } ≡ before
