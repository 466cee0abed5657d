use Rattle.std.specs.Prelude.{◌≡◌, drop}
use Rattle.std.specs.List.{filter}
use Rattle.fault_notifier.specs.Filters.{matches}
use Rattle.fault_notifier.proofs.notifiers.next_match.Given as goal

-- what is between is not let through
abbrev pub invariant-loop-at : goal.invariant-loop-at
invariant-loop-at l = filter (matches l.fn.filter) (drop l.fn.from l.fn.events) ≡ filter (matches l.fn.filter) (drop l.at l.fn.events)
