-- What a monitor hears of the members that it watches, and what follows from that. (Chapter 23, Fault
-- Management: a pull monitor asks each member at an interval whether it is alive, and takes it for faulty
-- where it hasn't answered within a timeout.)
use Rattle.std.specs.Prelude.{ℕ, ◌+◌, ◌&&◌, ◌||◌, Bool, true, false, nat_eq, nat_le, if◌then◌else◌, List, [], ◌∷◌, Option, Some, None, option_map}

-- something that is heard of a member: it was asked, at this tick, or it answered
pub data Heard : Type 0 where
  asked : ℕ → Heard
  answered : Heard

-- a watched member: at which interval it is asked, how long it may take, and all that was heard of it since it
-- was watched, the newest first
pub record Watched : Type 0 where
  pub interval : ℕ
  pub timeout : ℕ
  pub heard : List Heard

-- the watched members, by their groups and hosts
abbrev pub Watch : Type 0
Watch = ℕ → ℕ → Option Watched

-- ---- due and overdue

-- when it was last asked, if ever
unfoldable pub last_ask : List Heard → Option ℕ
last_ask [] = None
last_ask (asked tick ∷ earlier) = Some tick
last_ask (answered ∷ earlier) = last_ask earlier

abbrev pub is_due_after : Option ℕ → ℕ → ℕ → Bool
is_due_after None interval now = true
is_due_after (Some tick) interval now = nat_le (tick + interval) now

-- it was never asked, or its last ask is an interval ago
abbrev pub is_due : Watched → ℕ → Bool
is_due w now = is_due_after (last_ask w.heard) w.interval now

-- some ask is a timeout ago, and no answer was heard after it
unfoldable pub waits_for : ℕ → ℕ → List Heard → Bool
waits_for timeout now [] = false
waits_for timeout now (asked tick ∷ earlier) = nat_le (tick + timeout) now || waits_for timeout now earlier
waits_for timeout now (answered ∷ earlier) = false

abbrev pub is_overdue : Watched → ℕ → Bool
is_overdue w now = waits_for w.timeout now w.heard

-- a member that isn't watched is neither
abbrev pub if_watched : (Watched → ℕ → Bool) → Option Watched → ℕ → Bool
if_watched holds None now = false
if_watched holds (Some w) now = holds w now

-- ---- what a monitor is told

abbrev pub nobody : Watch
nobody group host = None

-- one member's in place of what is there
abbrev pub with_member : Watch → ℕ → ℕ → Option Watched → Watch
with_member watch group host w g h = if nat_eq group g && nat_eq host h then w else watch g h

-- watched from now on, or again with other numbers: what was heard stays
abbrev pub numbered : Option Watched → ℕ → ℕ → Watched
numbered None interval timeout = record { interval = interval; timeout = timeout; heard = [] }
numbered (Some w) interval timeout = record { interval = interval; timeout = timeout; heard = w.heard }

abbrev pub watched : Watch → ℕ → ℕ → ℕ → ℕ → Watch
watched watch group host interval timeout =
    with_member watch group host (Some (numbered (watch group host) interval timeout))

-- something more is heard of a member, where it is watched
abbrev pub hears : Heard → Watched → Watched
hears what w = record w { heard = what ∷ w.heard }

abbrev pub told : Watch → ℕ → ℕ → Heard → Watch
told watch group host what = with_member watch group host (option_map (hears what) (watch group host))
