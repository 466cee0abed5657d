-- The plain notifier: one list of events, and of each connection the number of events that were there before it
-- and how many of its own were read. (Chapter 23, FaultNotifier.)
use Rattle.std.specs.Prelude.{ℕ, ◌+◌, ◌-◌, ◌&&◌, nat_eq, if◌then◌else◌, List, [], ◌∷◌, ◌++◌, length, drop, slice_get, Option, Some, None}
use Rattle.std.specs.List.{filter}
use Rattle.fault_notifier.specs.Filters.{Filter, matches}
use Rattle.fault_notifier.specs.declared.events.FaultEvent.{FaultEvent}

pub record Connection : Type 0 where
  pub filter : Filter
  -- how many events had been pushed when it was made
  pub since : ℕ
  -- how many of its events were pulled
  pub read : ℕ

pub record Notified : Type 0 where
  -- all events, in order of pushing
  pub events : List FaultEvent
  -- how many connections were ever made, and how many there are
  pub made : ℕ
  pub connected : ℕ
  -- the connections that there are, by the place and the number of their subscriptions
  pub at : ℕ → ℕ → Option Connection

abbrev pub silent : Notified
silent = record { events = []; made = 0; connected = 0; at = λ place number. None }

-- the events of a connection: those since it was made that its filter lets through
abbrev pub events_of : List FaultEvent → Connection → List FaultEvent
events_of events c = filter (matches c.filter) (drop c.since events)

-- the next that it hasn't read
abbrev pub next_event : List FaultEvent → Connection → Option FaultEvent
next_event events c = slice_get (events_of events c) c.read

-- ---- what calls make of it

abbrev pub with_connection : Notified → ℕ → ℕ → Option Connection → ℕ → ℕ → Option Connection
with_connection n place number c p k = if nat_eq place p && nat_eq number k then c else n.at p k

-- a new connection has none of the events before it
abbrev pub connected : Notified → ℕ → Filter → Notified
connected n place f =
    let c : Connection = record { filter = f; since = length n.events; read = 0 } in
    record n { made = n.made + 1; connected = n.connected + 1; at = with_connection n place (n.made + 1) (Some c) }

abbrev pub disconnected : Notified → ℕ → ℕ → Notified
disconnected n place number = record n { connected = n.connected - 1; at = with_connection n place number None }

abbrev pub pushed : Notified → FaultEvent → Notified
pushed n event = record n { events = n.events ++ event ∷ [] }

-- one event more was read
abbrev pub pulled : Notified → ℕ → ℕ → Connection → Notified
pulled n place number c = record n { at = with_connection n place number (Some (record c { read = c.read + 1 })) }
