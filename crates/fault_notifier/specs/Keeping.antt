-- What a notifier keeps of the plain one: of each connection the place from which its events are still to be read.
use Rattle.std.specs.Prelude.{◌≡◌, ℕ, ◌+◌, Bool, true, ◌≤◌, ◌<◌, ◌==◌, nat_le, if◌then◌else◌, List, [], ◌∷◌, ◌++◌, length, drop, slice_get, slice_index_or, count_by, is_some, Option, Some, None, Result, Ok, Err}
use Rattle.std.specs.List.{filter}
use Rattle.fault_notifier.specs.Filters.{Filter, matches}
use Rattle.fault_notifier.specs.Notifying.{Notified, Connection, next_event, connected, disconnected, pushed, pulled}
use Rattle.fault_notifier.specs.declared.events.FaultEvent.{FaultEvent}
use Rattle.fault_notifier.specs.declared.subscribers.Sub.{Sub}
use Rattle.fault_notifier.specs.declared.subscribers.Subscriber.{Subscriber}
use Rattle.fault_notifier.specs.declared.faults.NotifyFault.{NotifyFault}
use Rattle.fault_notifier.specs.declared.faults.NotifyFault.TheVariants as faults
use Rattle.fault_notifier.specs.declared.limits.TheConstants.{SUBSCRIBER_LIMIT, CONNECTION_LIMIT, EVENT_LIMIT}

pub record Picture : Type 0 where
  pub events : List FaultEvent
  -- how many connections were ever made
  pub made : ℕ
  -- the subscribers by their places
  pub places : List (Option Subscriber)

-- the subscriber with this number at a place
abbrev pub numbered : ℕ → Option Subscriber → Option Subscriber
numbered number None = None
numbered number (Some s) = if s.number == number then Some s else None

abbrev pub subscriber_at : List (Option Subscriber) → ℕ → ℕ → Option Subscriber
subscriber_at places place number = numbered number (slice_index_or places place None)

abbrev pub looked : ℕ → Option Subscriber → Option Subscriber
looked next None = None
looked next (Some s) = Some (record s { next = next })

-- the first element from a place on that passes a test, if one does
abbrev pub IsNext : {A : Type 0} → (A → Bool) → List A → ℕ → Option ℕ → Type 0
IsNext test xs start None = filter test (drop start xs) ≡ []
IsNext {A} test xs start (Some at) = (x : A) × (slice_get xs at ≡ Some x) × (filter test (drop start xs) ≡ x ∷ filter test (drop (at + 1) xs))

-- what a connection has read, and what of its events it hasn't looked at, are all of its events
pub record Reads (events : List FaultEvent) (c : Connection) (s : Subscriber) : Type 0 where
  pub lets : c.filter ≡ s.filter
  pub since : c.since ≤ length events
  pub next : s.next ≤ length events
  pub seen : List FaultEvent
  pub are : filter (matches c.filter) (drop c.since events) ≡ seen ++ filter (matches c.filter) (drop s.next events)
  pub read : length seen ≡ c.read

abbrev pub ReadsAt : List FaultEvent → Option Connection → Option Subscriber → Type 0
ReadsAt events None None = Unit {0}
ReadsAt events None (Some s) = ⊥
ReadsAt events (Some c) None = ⊥
ReadsAt events (Some c) (Some s) = Reads events c s

pub record StandsFor (n : Notified) (kept : Picture) : Type 0 where
  pub events : n.events ≡ kept.events
  pub made : n.made ≡ kept.made
  pub connected : n.connected ≡ count_by is_some kept.places
  pub at : (place number : ℕ) → ReadsAt kept.events (n.at place number) (subscriber_at kept.places place number)

-- ---- what calls answer and leave

-- why no more subscribers connect: there are as many as there can be, or else no number is left
abbrev pub refusal_of : ℕ → ℕ → Option ℕ
refusal_of connected made = if nat_le SUBSCRIBER_LIMIT connected then Some SUBSCRIBER_LIMIT
    else (if nat_le CONNECTION_LIMIT made then Some CONNECTION_LIMIT else None)

abbrev pub refusal : Notified → Option ℕ
refusal n = refusal_of n.connected n.made

abbrev pub IsConnected : Notified → Filter → Result Sub NotifyFault → Picture → Picture → Type 0
IsConnected n f (Ok sub) old new = (refusal n ≡ None) × (sub.number ≡ n.made + 1) × StandsFor (connected n sub.place f) new
IsConnected n f (Err faults.NoSubscriber) old new = ⊥
IsConnected n f (Err (faults.Full limit)) old new = (refusal n ≡ Some limit) × (new ≡ old)
IsConnected n f (Err faults.NoMemory) old new = (refusal n ≡ None) × (new ≡ old)

abbrev pub IsDisconnected : Notified → Sub → Result (Unit {0}) NotifyFault → Picture → Picture → Type 0
IsDisconnected n sub (Ok done) old new = (is_some (n.at sub.place sub.number) ≡ true) × StandsFor (disconnected n sub.place sub.number) new
IsDisconnected n sub (Err faults.NoSubscriber) old new = (n.at sub.place sub.number ≡ None) × (new ≡ old)
IsDisconnected n sub (Err (faults.Full limit)) old new = ⊥
IsDisconnected n sub (Err faults.NoMemory) old new = ⊥

abbrev pub IsPushed : Notified → FaultEvent → Result (Unit {0}) NotifyFault → Picture → Picture → Type 0
IsPushed n event (Ok done) old new = (length n.events < EVENT_LIMIT) × StandsFor (pushed n event) new
IsPushed n event (Err faults.NoSubscriber) old new = ⊥
IsPushed n event (Err (faults.Full limit)) old new = (limit ≡ EVENT_LIMIT) × (EVENT_LIMIT ≤ length n.events) × (new ≡ old)
IsPushed n event (Err faults.NoMemory) old new = (length n.events < EVENT_LIMIT) × (new ≡ old)

-- its next event; none where it has read all; where memory is wanted for an event it reads on there later
abbrev pub IsPulledBy : Notified → Sub → Option Connection → Result (Option FaultEvent) NotifyFault → Picture → Type 0
IsPulledBy n sub None (Ok event) new = ⊥
IsPulledBy n sub None (Err faults.NoSubscriber) new = StandsFor n new
IsPulledBy n sub None (Err (faults.Full limit)) new = ⊥
IsPulledBy n sub None (Err faults.NoMemory) new = ⊥
IsPulledBy n sub (Some c) (Ok None) new = (next_event n.events c ≡ None) × StandsFor n new
IsPulledBy n sub (Some c) (Ok (Some event)) new = (next_event n.events c ≡ Some event) × StandsFor (pulled n sub.place sub.number c) new
IsPulledBy n sub (Some c) (Err faults.NoSubscriber) new = ⊥
IsPulledBy n sub (Some c) (Err (faults.Full limit)) new = ⊥
IsPulledBy n sub (Some c) (Err faults.NoMemory) new = (is_some (next_event n.events c) ≡ true) × StandsFor n new

abbrev pub IsPulled : Notified → Sub → Result (Option FaultEvent) NotifyFault → Picture → Type 0
IsPulled n sub result new = IsPulledBy n sub (n.at sub.place sub.number) result new
