-- A link in memory, exactly.
use Rattle.std.specs.Prelude.{◌≡◌, ℕ, ◌+◌, ◌-◌, ◌<◌, ◌≤◌, ◌⊎◌, min, Bool, true, false, List, [], ◌∷◌, ◌++◌, length, take, drop, Option, Some, None}
use Rattle.ft_outside.specs.Outside.{next_count, added}
use Rattle.ft_outside.specs.Schedules.{Schedule, is_failing, after_call, after_fault}
use Rattle.outside_links.specs.Lending.{Target}
use Rattle.ft_outside.specs.declared.sources.Got.{Got}
use Rattle.ft_outside.specs.declared.sources.Got.TheVariants as gots
use Rattle.ft_outside.specs.declared.sinks.Put.{Put}
use Rattle.ft_outside.specs.declared.sinks.Put.TheVariants as puts

pub record Wire : Type 0 where
  -- the bytes that it will still give
  pub left : List ℕ
  -- all that was written
  pub held : List ℕ
  -- the most bytes that it can hold
  pub room : ℕ
  pub closed : Bool
  pub schedule : Schedule

-- a read fails exactly where its number says so or the link is closed; else it gives as many bytes as there is room for
abbrev pub IsReceived : Wire → Wire → List ℕ → Got → Type 0
IsReceived old new into (gots.Bytes n) =
    (old.closed ≡ false) × (is_failing old.schedule ≡ false) × (0 < n) × (n ≡ min (length old.left) (length into)) × (take n into ≡ take n old.left)
    × (new ≡ record old { left = drop n old.left; schedule = after_call old.schedule })
IsReceived old new into gots.End =
    (old.closed ≡ false) × (is_failing old.schedule ≡ false) × (old.left ≡ []) × (new ≡ record old { schedule = after_call old.schedule })
IsReceived old new into gots.Failed =
    ((old.closed ≡ true) ⊎ (is_failing old.schedule ≡ true)) × (new ≡ record old { schedule = after_fault old.schedule })

-- a write fails exactly where its number says so, the link is closed or the piece is past the room; else it is kept whole
abbrev pub IsSent : Wire → Wire → List ℕ → Put → Type 0
IsSent old new piece (puts.Took n) =
    (old.closed ≡ false) × (is_failing old.schedule ≡ false) × (0 < n) × (n ≡ length piece) × (length old.held + length piece ≤ old.room)
    × (new ≡ record old { held = old.held ++ piece; schedule = after_call old.schedule })
IsSent old new piece puts.Failed =
    ((old.closed ≡ true) ⊎ ((is_failing old.schedule ≡ true) ⊎ (old.room < length old.held + length piece)))
    × (new ≡ record old { schedule = after_fault old.schedule })

-- open, with nothing written and no faults
abbrev pub IsFresh : Wire → Type 0
IsFresh w = (w.schedule.faults ≡ 0) × (w.held ≡ []) × (w.closed ≡ false)

-- a caller in memory: its next links, where those that it gave lead, those that came back, how many are out, and its
-- count of faults
pub record Calling : Type 0 where
  pub links : List Wire
  pub targets : List Target
  pub taken : List Wire
  pub lent : ℕ
  pub faults : ℕ

-- a door in memory
pub record Answering : Type 0 where
  pub links : List Wire
  pub port : ℕ
  pub faults : ℕ

-- a network in memory: its next doors and callers, which binds fail, and the faults of callers that came back
pub record Netting : Type 0 where
  pub doors : List Answering
  pub callers : List Calling
  pub schedule : Schedule
  pub broken : ℕ

-- a caller with these links, of which it gave none
abbrev pub calling : List Wire → Calling
calling links = record { links = links; targets = []; taken = []; lent = 0; faults = 0 }

-- a dial gives the first link, and fails exactly where none is left
abbrev pub IsDialed : Target → Calling → Calling → Option Wire → Type 0
IsDialed target old new None = (old.links ≡ []) × (new ≡ record old { faults = next_count old.faults })
IsDialed target old new (Some link) =
    (old.links ≡ link ∷ new.links) × (new ≡ record old { links = new.links; targets = old.targets ++ target ∷ []; lent = old.lent + 1 })

-- what comes back is closed
abbrev pub shut : Wire → Wire
shut w = record w { closed = true }

abbrev pub taken_back : Calling → Wire → Calling
taken_back c link = record c { taken = c.taken ++ shut link ∷ []; lent = c.lent - 1; faults = added c.faults link.schedule.faults }

-- so does a door
abbrev pub IsAccepted : Answering → Answering → Option Wire → Type 0
IsAccepted old new None = (old.links ≡ []) × (new ≡ record old { faults = next_count old.faults })
IsAccepted old new (Some link) = (old.links ≡ link ∷ new.links) × (new ≡ record old { links = new.links })

-- a bind gives the first door, and fails exactly where its number says so or none is left
abbrev pub IsBound : Netting → Netting → Option Answering → Type 0
IsBound old new None =
    ((is_failing old.schedule ≡ true) ⊎ (old.doors ≡ [])) × (new ≡ record old { schedule = after_fault old.schedule })
IsBound old new (Some door) =
    (is_failing old.schedule ≡ false) × (old.doors ≡ door ∷ new.doors) × (new ≡ record old { doors = new.doors; schedule = after_call old.schedule })

abbrev pub IsNewDoor : Answering → Type 0
IsNewDoor door = door.faults ≡ 0

abbrev pub IsNewCaller : Calling → Type 0
IsNewCaller caller = (caller.targets ≡ []) × (caller.taken ≡ []) × (caller.lent ≡ 0) × (caller.faults ≡ 0)
