-- Faults of a link.
use Rattle.std.specs.Prelude.{Option, Some, None, Result, Ok, Err}
use Rattle.cdr_codec.specs.Reading.{Fault}
use Rattle.giop_messages.specs.declared.faults.Why.{Why}
use Rattle.giop_messages.specs.declared.faults.ReadFault.{ReadFault}
use Rattle.giop_messages.specs.declared.faults.ReadFault.TheVariants as reads
use Rattle.giop_stream.specs.declared.faults.StreamFault.{StreamFault}
use Rattle.giop_stream.specs.declared.faults.StreamFault.TheVariants as faults

abbrev pub from_read : ReadFault → StreamFault
from_read (reads.Malformed why place) = faults.Malformed why place
from_read reads.NoMemory = faults.NoMemory

-- what was read, or what is wrong with it as a fault of the link
abbrev pub told : {X : Type 0} → Result X (Fault Why) → Result X StreamFault
told (Ok x) = Ok x
told (Err wrong) = Err (faults.Malformed wrong.why wrong.place)

-- a fault of the link; none for want of memory
abbrev pub link_fault : StreamFault → Option StreamFault
link_fault (faults.Malformed why place) = Some (faults.Malformed why place)
link_fault (faults.TooLarge size) = Some (faults.TooLarge size)
link_fault faults.NoMemory = None
