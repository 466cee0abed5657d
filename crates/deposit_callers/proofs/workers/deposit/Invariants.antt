use Rattle.hist_lock.specs.Passes.{IsOf}
use Rattle.deposit_callers.proofs.workers.deposit.Given as goal

abbrev pub invariant-loop-id : goal.invariant-loop-id
invariant-loop-id g l = IsOf l.initial.group.lock l.pass
