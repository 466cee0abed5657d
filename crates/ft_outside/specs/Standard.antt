-- The adapters to the system: what they answer is what their device answered.
use Rattle.std.specs.Prelude.{ℕ, List, [], take, Option}
use Rattle.std.specs.Io.KnownBytes.{Keeps, Appends, Consumes, IsAtEnd}
use Rattle.ft_outside.specs.declared.sources.Got.{Got}
use Rattle.ft_outside.specs.declared.sources.Got.TheVariants as gots
use Rattle.ft_outside.specs.declared.sinks.Put.{Put}
use Rattle.ft_outside.specs.declared.sinks.Put.TheVariants as puts

-- a reader or a writer of the system, and how many of its calls failed
pub record Adapter (Device : Type 0) : Type 0 where
  pub device : Device
  pub faults : ℕ

-- Of a reader that tells what it has left: the bytes that are answered are those that it gave; at the
-- end it has none; where a read failed it has kept all.
abbrev pub IsReadOfDevice : Option (List ℕ) → Option (List ℕ) → List ℕ → Got → Type 0
IsReadOfDevice before left into (gots.Bytes n) = Consumes before left (take n into)
IsReadOfDevice before left into gots.End = Consumes before left [] × IsAtEnd left
IsReadOfDevice before left into gots.Failed = Keeps before left

-- Of a writer that tells what it holds: it took as many bytes as are answered, and none where the
-- write failed.
abbrev pub IsWriteToDevice : Option (List ℕ) → Option (List ℕ) → List ℕ → Put → Type 0
IsWriteToDevice before holds piece (puts.Took n) = Appends before holds (take n piece)
IsWriteToDevice before holds piece puts.Failed = Keeps before holds

-- Of such a writer: a flush changes nothing of what it took.
abbrev pub IsFlushOfDevice : Option (List ℕ) → Option (List ℕ) → Type 0
IsFlushOfDevice before holds = Keeps before holds
