use Rattle.hist_lock.specs.Passes.{IsOf}
use Rattle.lock_counter.proofs.runs.count_up.Given as goal

abbrev pub invariant-loop : goal.invariant-loop
invariant-loop g l = IsOf l.initial.lock l.pass
