use Rattle.std.proofs.Common.{All}
use Rattle.hist_lock.specs.Passes.{IsOf}
use Rattle.shared_turns.proofs.crowds.take_in_all.Given as goal

-- the passes that are still to come are the group's
abbrev pub invariant-loop-hand : goal.invariant-loop-hand
invariant-loop-hand l = IsOf l.initial.group.lock l.main × All (λ hand. IsOf l.initial.group.lock hand.pass) l.hand-iterator.rest.items
