-- What a monitor keeps of a member in place of all that was heard.
use Rattle.std.specs.Prelude.{◌≡◌, ℕ, ◌+◌, Bool, false, nat_eq, nat_le, ◌&&◌, if◌then◌else◌, List, Option, Some, None, option_map}
use Rattle.std.specs.Ordering.{nat_cmp, ordering_then}
use Rattle.std.specs.declared.cmp.Ordering.{Ordering}
use Rattle.std.specs.BTreeMap.{is_at}
use Rattle.std.specs.Map.{lookup}
use Rattle.ft_base.specs.declared.numbers.Tick.{Tick}
use Rattle.fault_monitor.specs.declared.members.Member.{Member}
use Rattle.fault_monitor.specs.Watching.{Watch, Watched, last_ask, waits_for}

-- the earliest ask without an answer is this long ago
abbrev pub is_past : Option Tick → ℕ → ℕ → Bool
is_past None timeout now = false
is_past (Some tick) timeout now = nat_le (tick.0 + timeout) now

-- the earlier one of a tick and of another that may be there
abbrev pub earliest : Option Tick → Tick → Tick
earliest None tick = tick
earliest (Some other) tick = if nat_le other.0 tick.0 then other else tick

-- The kept ticks say the same as all that was heard: the last ask, and of those without an answer the one that
-- is first past whatever timeout.
pub record Sums (w : Watched) (member : Member) : Type 0 where
  pub interval : w.interval ≡ member.interval.0
  pub timeout : w.timeout ≡ member.timeout.0
  pub last : last_ask w.heard ≡ option_map (λ (t : Tick). t.0) member.last
  pub waits : (timeout now : ℕ) → waits_for timeout now w.heard ≡ is_past member.unanswered timeout now

abbrev pub SumsAt : Option Watched → Option Member → Type 0
SumsAt None None = Unit {0}
SumsAt None (Some member) = ⊥
SumsAt (Some w) None = ⊥
SumsAt (Some w) (Some member) = Sums w member

-- what is kept, in the order of groups and hosts
abbrev pub Kept : Type 0
Kept = List ((ℕ × ℕ) × Member)

-- pairs in the order of their first numbers, and then of their second ones
abbrev pub pair_order : ℕ × ℕ → ℕ × ℕ → Ordering
pair_order one other = ordering_then (nat_cmp one.0 other.0) (nat_cmp one.1 other.1)

-- the member of a group at a host
abbrev pub kept_at : Kept → ℕ → ℕ → Option Member
kept_at kept group host = lookup (is_at (pair_order (group, host))) kept

-- this is kept of one member now, and of all others what was
abbrev pub IsPut : ℕ → ℕ → Option Member → Kept → Kept → Type 0
IsPut group host member old new =
    (g h : ℕ) → kept_at new g h ≡ (if nat_eq group g && nat_eq host h then member else kept_at old g h)

abbrev pub StandsFor : Watch → Kept → Type 0
StandsFor watch kept = (group host : ℕ) → SumsAt (watch group host) (kept_at kept group host)
