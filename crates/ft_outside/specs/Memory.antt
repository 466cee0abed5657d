-- The forms of a source and a sink in memory, exactly.
use Rattle.std.specs.Prelude.{◌≡◌, ℕ, ◌+◌, ◌<◌, ◌≤◌, ◌⊎◌, min, true, false, List, [], ◌++◌, length, take, drop}
use Rattle.ft_outside.specs.Schedules.{Schedule, is_failing, after_call, after_fault}
use Rattle.ft_outside.specs.declared.sources.Got.{Got}
use Rattle.ft_outside.specs.declared.sources.Got.TheVariants as gots
use Rattle.ft_outside.specs.declared.sinks.Put.{Put}
use Rattle.ft_outside.specs.declared.sinks.Put.TheVariants as puts

-- a source in memory
pub record Feed : Type 0 where
  -- the bytes that it will still give
  pub left : List ℕ
  pub schedule : Schedule

-- a sink in memory
pub record Store : Type 0 where
  -- all that was written
  pub held : List ℕ
  -- the most bytes that it can hold
  pub room : ℕ
  pub schedule : Schedule

-- a read fails exactly where its number says so; else it gives as many bytes as the slice has room for
abbrev pub IsReadOfFeed : Feed → Feed → List ℕ → Got → Type 0
IsReadOfFeed old new into (gots.Bytes n) =
    (is_failing old.schedule ≡ false) × (0 < n) × (n ≡ min (length old.left) (length into)) × (take n into ≡ take n old.left)
    × (new ≡ record { left = drop n old.left; schedule = after_call old.schedule })
IsReadOfFeed old new into gots.End =
    (is_failing old.schedule ≡ false) × (old.left ≡ []) × (new ≡ record old { schedule = after_call old.schedule })
IsReadOfFeed old new into gots.Failed =
    (is_failing old.schedule ≡ true) × (new ≡ record old { schedule = after_fault old.schedule })

-- a write fails exactly where its number says so or the piece is past the room; else the whole piece is kept
abbrev pub IsWriteToStore : Store → Store → List ℕ → Put → Type 0
IsWriteToStore old new piece (puts.Took n) =
    (is_failing old.schedule ≡ false) × (0 < n) × (n ≡ length piece) × (length old.held + length piece ≤ old.room)
    × (new ≡ record old { held = old.held ++ piece; schedule = after_call old.schedule })
IsWriteToStore old new piece puts.Failed =
    ((is_failing old.schedule ≡ true) ⊎ (old.room < length old.held + length piece))
    × (new ≡ record old { schedule = after_fault old.schedule })
