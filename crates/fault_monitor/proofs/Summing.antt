-- What is kept of a member says what was heard.
use Rattle.std.proofs.Common.{arith, ◌≡◌, ◌+◌, ◌||◌, ℕ, nat_le, if◌then◌else◌, Option, Some, None, refl, ap, ◌∙◌}
use Rattle.ft_base.specs.declared.numbers.Tick.{Tick}
use Rattle.fault_monitor.specs.declared.members.Member.{Member}
use Rattle.fault_monitor.specs.Watching.{Watched, asked, answered, last_ask, waits_for, hears, numbered}
use Rattle.fault_monitor.specs.Keeping.{Sums, earliest, is_past}

pub nothing_heard : (interval timeout : Tick) → Sums (numbered None interval.0 timeout.0) (record { interval = interval; timeout = timeout; last = None; unanswered = None })
unfolding last_ask waits_for
nothing_heard interval timeout = record { interval = refl; timeout = refl; last = refl; waits = λ t now. refl }

earliest_waits : (other : Option Tick) (tick : Tick) (timeout now : ℕ) → (nat_le (tick.0 + timeout) now || is_past other timeout now) ≡ nat_le ((earliest other tick).0 + timeout) now
earliest_waits None tick timeout now = grind arith
earliest_waits (Some other) tick timeout now = grind arith

pub asked_once_more : (w : Watched) (m : Member) (tick : Tick) → Sums w m → Sums (hears (asked tick.0) w) (record m { last = Some tick; unanswered = Some (earliest m.unanswered tick) })
unfolding last_ask waits_for
asked_once_more w m tick sums = record {
  interval = sums.interval;
  timeout = sums.timeout;
  last = refl;
  waits = λ timeout now. ap (λ b. nat_le (tick.0 + timeout) now || b) (sums.waits timeout now) ∙ earliest_waits m.unanswered tick timeout now;
}

pub answered_now : (w : Watched) (m : Member) → Sums w m → Sums (hears answered w) (record m { unanswered = None })
unfolding last_ask waits_for
answered_now w m sums = record { interval = sums.interval; timeout = sums.timeout; last = sums.last; waits = λ timeout now. refl }
