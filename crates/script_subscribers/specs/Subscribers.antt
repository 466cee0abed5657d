-- Those who subscribe in a script, by their names, each with the faults that it is still to be told of. (Chapter 23,
-- FaultNotifier.)
use Rattle.std.specs.Prelude.{ℕ, ◌+◌, Bool, false, nat_lt, if◌then◌else◌, is_some, List, [], ◌∷◌, ◌++◌, length, map, drop, count_by, Option, Some, None, option_map}
use Rattle.std.specs.List.{find}
use Rattle.std.specs.Option.{option_and_then}
use Rattle.std.specs.Str.{bytes_eq}
use Rattle.fault_notifier.specs.declared.events.FaultEvent.{FaultEvent}
use Rattle.fault_notifier.specs.declared.limits.TheConstants.{EVENT_LIMIT}
use Rattle.fault_notifier.specs.Filters.{Filter, lets_all, matches, terms, with_term}
use Rattle.fault_notifier.specs.Keeping.{refusal_of}

pub record Listener : Type 0 where
  pub filter : Filter
  -- the faults since it subscribed that its filter lets through and that it hasn't pulled, in order
  pub unread : List FaultEvent

pub record Subscriber : Type 0 where
  pub name : List ℕ
  -- none since it has unsubscribed
  pub listens : Option Listener

pub record Subscribers : Type 0 where
  -- all that ever subscribed, in order
  pub all : List Subscriber
  -- how many faults were reported, counted up to one more than there can be
  pub faults : ℕ

abbrev pub nobody_listens : Subscribers
nobody_listens = record { all = []; faults = 0 }

-- ---- who is there

abbrev pub is_listening : Subscriber → Bool
is_listening s = is_some s.listens

-- it listens, and has this name
abbrev pub is_by : List ℕ → Subscriber → Bool
is_by name s = if is_listening s then bytes_eq s.name name else false

abbrev pub subscriber_named : Subscribers → List ℕ → Option Listener
subscriber_named s name = option_and_then (λ (x : Subscriber). x.listens) (find (is_by name) s.all)

-- why no more subscribe
abbrev pub full : Subscribers → Option ℕ
full s = refusal_of (count_by is_listening s.all) (length s.all)

-- ---- filters

-- a text is a filter, or one of its terms, by its place from 0, is the first that is none
pub data Judged : Type 0 where
  Good : Filter → Judged
  Bad : ℕ → Judged

abbrev pub or_bad : ℕ → Option Filter → (Filter → Judged) → Judged
or_bad place None rest = Bad place
or_bad place (Some f) rest = rest f

unfoldable pub judged_from : Filter → ℕ → List (List ℕ) → Judged
judged_from f place [] = Good f
judged_from f place (text ∷ texts) = or_bad place (with_term f text) (λ g. judged_from g (place + 1) texts)

abbrev pub filter_in : List ℕ → Judged
filter_in text = judged_from lets_all 0 (terms text)

-- ---- what lines and reports make of them

-- the first that passes a test is changed
unfoldable pub with_first : (Subscriber → Bool) → (Subscriber → Subscriber) → List Subscriber → List Subscriber
with_first test change [] = []
with_first test change (s ∷ ss) = if test s then change s ∷ ss else s ∷ with_first test change ss

abbrev pub new_subscriber : List ℕ → Filter → Subscriber
new_subscriber name f = record { name = name; listens = Some (record { filter = f; unread = [] }) }

abbrev pub subscribed : Subscribers → List ℕ → Filter → Subscribers
subscribed s name f = record s { all = s.all ++ new_subscriber name f ∷ [] }

abbrev pub deaf : Subscriber → Subscriber
deaf s = record s { listens = None }

abbrev pub unsubscribed : Subscribers → List ℕ → Subscribers
unsubscribed s name = record s { all = with_first (is_by name) deaf s.all }

abbrev pub heard_by : FaultEvent → Listener → Listener
heard_by event l = if matches l.filter event then record l { unread = l.unread ++ event ∷ [] } else l

abbrev pub hears : FaultEvent → Subscriber → Subscriber
hears event s = record s { listens = option_map (heard_by event) s.listens }

-- a fault past the most isn't kept
abbrev pub told : Subscribers → FaultEvent → Subscribers
told s event =
    if nat_lt s.faults EVENT_LIMIT then record { all = map (hears event) s.all; faults = s.faults + 1 }
    else record s { faults = EVENT_LIMIT + 1 }

abbrev pub without_next : Listener → Listener
without_next l = record l { unread = drop 1 l.unread }

abbrev pub reads_next : Subscriber → Subscriber
reads_next s = record s { listens = option_map without_next s.listens }

abbrev pub pulled : Subscribers → List ℕ → Subscribers
pulled s name = record s { all = with_first (is_by name) reads_next s.all }
