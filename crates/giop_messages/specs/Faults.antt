-- What is wrong with a message, and where.
use Rattle.std.specs.Prelude.{◌≡◌, Option, Some, None, Result, Ok, Err}
use Rattle.cdr_codec.specs.declared.faults.CdrWhy.{CdrWhy}
use Rattle.cdr_codec.specs.declared.faults.CdrWhy.TheVariants as values
use Rattle.cdr_codec.specs.declared.faults.FieldFault.{FieldFault}
use Rattle.cdr_codec.specs.declared.faults.FieldFault.TheVariants as fields
use Rattle.cdr_codec.specs.Reading.{Fault, fault_at}
use Rattle.giop_messages.specs.declared.faults.Why.{Why}
use Rattle.giop_messages.specs.declared.faults.Why.TheVariants as causes
use Rattle.giop_messages.specs.declared.faults.Malformed.{Malformed}
use Rattle.giop_messages.specs.declared.faults.ReadFault.{ReadFault}
use Rattle.giop_messages.specs.declared.faults.ReadFault.TheVariants as faults

-- what is wrong with a value is wrong with its message
abbrev pub up : CdrWhy → Why
up values.Short = causes.Short
up values.BadBool = causes.BadBool
up values.BadString = causes.BadString
up values.BadOrder = causes.BadOrder

abbrev pub of_field : FieldFault → ReadFault
of_field (fields.Bad wrong) = faults.Malformed (up wrong.why) wrong.place
of_field fields.NoMemory = faults.NoMemory

-- the fault that a Malformed is
abbrev pub malformed : Malformed → Fault Why
malformed wrong = fault_at wrong.why wrong.place

abbrev pub wrong_of : Malformed → Option (Fault Why)
wrong_of wrong = Some (malformed wrong)

-- the call answered what stands there, or what is wrong with it
abbrev pub IsJudged : {X : Type 0} → Result X Malformed → Result X (Fault Why) → Type 0
IsJudged (Ok x) what = what ≡ Ok x
IsJudged (Err wrong) what = what ≡ Err (malformed wrong)

-- the first fault; none for want of memory
abbrev pub read_fault : ReadFault → Option (Fault Why)
read_fault (faults.Malformed why place) = Some (fault_at why place)
read_fault faults.NoMemory = None
