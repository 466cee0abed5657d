-- What the calls answer, and what they leave.
use Rattle.std.specs.Prelude.{◌≡◌, ℕ, List, [], ◌∷◌, Option, Some, None, Result, Ok, Err}
use Rattle.fault_notifier.specs.declared.events.FaultEvent.{FaultEvent}
use Rattle.fault_notifier.specs.declared.faults.NotifyFault.{NotifyFault}
use Rattle.ft_base.specs.declared.memory.NoMemory.{NoMemory}
use Rattle.script_subscribers.specs.declared.answers.Pulled.{Pulled}
use Rattle.script_subscribers.specs.declared.answers.Pulled.TheVariants as pulls
use Rattle.script_subscribers.specs.declared.answers.Subscribed.{Subscribed}
use Rattle.script_subscribers.specs.declared.answers.Subscribed.TheVariants as answers
use Rattle.script_subscribers.specs.Subscribers.{Judged, Good, Bad, Listener, Subscribers, filter_in, full, pulled, subscribed, subscriber_named}

-- the filter is judged before the room
abbrev pub subscribed_of : Judged → Option ℕ → Subscribed
subscribed_of (Bad place) room = answers.BadFilter place
subscribed_of (Good f) (Some count) = answers.Full count
subscribed_of (Good f) None = answers.Done

abbrev pub with_subscriber : Subscribers → List ℕ → Judged → Option ℕ → Subscribers
with_subscriber s name (Bad place) room = s
with_subscriber s name (Good f) (Some count) = s
with_subscriber s name (Good f) None = subscribed s name f

-- by a filter that was judged
abbrev pub IsJoined : Subscribers → List ℕ → Judged → Result Subscribed NoMemory → Subscribers → Type 0
IsJoined s name judged (Ok answer) new =
    (answer ≡ subscribed_of judged (full s)) × (new ≡ with_subscriber s name judged (full s))
IsJoined s name judged (Err why) new = new ≡ s

-- by a filter's text
abbrev pub IsSubscribed : Subscribers → List ℕ → List ℕ → Result Subscribed NoMemory → Subscribers → Type 0
IsSubscribed s name text result new = IsJoined s name (filter_in text) result new

-- the next that it hasn't read
abbrev pub next_of : List FaultEvent → Pulled
next_of [] = pulls.Nothing
next_of (event ∷ events) = pulls.Event event

abbrev pub pulled_of : Option Listener → Pulled
pulled_of None = pulls.Unknown
pulled_of (Some l) = next_of l.unread

abbrev pub left_by : Subscribers → List ℕ → Pulled → Subscribers
left_by s name (pulls.Event event) = pulled s name
left_by s name other = s

abbrev pub IsPulled : Subscribers → List ℕ → Result Pulled NoMemory → Subscribers → Type 0
IsPulled s name (Ok answer) new = (answer ≡ pulled_of (subscriber_named s name)) × (new ≡ left_by s name answer)
IsPulled s name (Err why) new = new ≡ s

-- what a notifier tells one who is connected
abbrev pub answer_of : Result (Option FaultEvent) NotifyFault → Result Pulled NoMemory
answer_of (Ok None) = Ok pulls.Nothing
answer_of (Ok (Some event)) = Ok (pulls.Event event)
answer_of (Err why) = Err (record {})
