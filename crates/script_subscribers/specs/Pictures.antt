-- What is kept of those who subscribe: their names, and subscriptions at a notifier.
use Rattle.std.specs.Prelude.{◌≡◌, ℕ, ◌+◌, ◌≤◌, Bool, true, List, [], ◌∷◌, length, map, drop, count_by, is_some, Option, Some, None, option_map}
use Rattle.std.specs.List.{filter}
use Rattle.fault_notifier.specs.Filters.{matches}
use Rattle.fault_notifier.specs.Notifying.{Notified, Connection, events_of}
use Rattle.fault_notifier.specs.Keeping.{Picture, StandsFor, subscriber_at}
use Rattle.fault_notifier.specs.declared.events.FaultEvent.{FaultEvent}
use Rattle.fault_notifier.specs.declared.limits.TheConstants.{EVENT_LIMIT}
use Rattle.fault_notifier.specs.declared.subscribers.Sub.{Sub}
use Rattle.fault_notifier.specs.declared.subscribers.Subscriber.{Subscriber as Connected}
use Rattle.script_subscribers.specs.declared.named.Named.{Named}
use Rattle.script_subscribers.specs.Subscribers.{Listener, Subscriber, Subscribers}

-- ---- by the places of a notifier

abbrev pub listener_kept : List FaultEvent → Connected → Listener
listener_kept events s = record { filter = s.filter; unread = filter (matches s.filter) (drop s.next events) }

abbrev pub listens_kept : Picture → Option Sub → Option Listener
listens_kept p None = None
listens_kept p (Some sub) = option_map (listener_kept p.events) (subscriber_at p.places sub.place sub.number)

abbrev pub subscriber_kept : Picture → Named → Subscriber
subscriber_kept p z = record { name = z.name; listens = listens_kept p z.sub }

abbrev pub shown : Picture → List Named → ℕ → Subscribers
shown p zs faults = record { all = map (subscriber_kept p) zs; faults = faults }

-- ---- by the connections of the plain notifier

abbrev pub Connections : Type 0
Connections = ℕ → ℕ → Option Connection

abbrev pub listener_of : List FaultEvent → Connection → Listener
listener_of events c = record { filter = c.filter; unread = drop c.read (events_of events c) }

abbrev pub listens_of : List FaultEvent → Connections → Option Sub → Option Listener
listens_of events at None = None
listens_of events at (Some sub) = option_map (listener_of events) (at sub.place sub.number)

abbrev pub subscriber_of : List FaultEvent → Connections → Named → Subscriber
subscriber_of events at z = record { name = z.name; listens = listens_of events at z.sub }

-- ---- what is true of all that is kept

-- a subscription is connected, and its number is that of its subscriber
abbrev pub IsSub : Connections → ℕ → Option Sub → Type 0
IsSub at number None = Unit {0}
IsSub at number (Some sub) = (sub.number ≡ number) × (is_some (at sub.place sub.number) ≡ true)

-- those of all who subscribed, numbered from a number on
abbrev pub AreSubs : Connections → ℕ → List Named → Type 0
AreSubs at number [] = Unit {0}
AreSubs at number (z ∷ zs) = IsSub at number z.sub × AreSubs at (number + 1) zs

abbrev pub has_sub : Named → Bool
has_sub z = is_some z.sub

pub record IsKept (p : Picture) (zs : List Named) (faults : ℕ) : Type 0 where
  pub n : Notified
  pub stands : StandsFor n p
  pub made : n.made ≡ length zs
  pub connected : n.connected ≡ count_by has_sub zs
  pub subs : AreSubs n.at 1 zs
  pub few : length n.events ≤ faults
  pub counted : faults ≤ EVENT_LIMIT + 1
