use Rattle.hist_lock.specs.Passes.{IsOf}
use Rattle.deposit_callers.proofs.workers.upset_until.Given as goal

abbrev pub invariant-loop-round : goal.invariant-loop-round
invariant-loop-round g l = IsOf l.initial.group.lock l.pass
