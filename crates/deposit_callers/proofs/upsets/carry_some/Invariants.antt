use Rattle.hist_lock.specs.Passes.{IsOf}
use Rattle.deposit_callers.proofs.upsets.carry_some.Given as goal

abbrev pub invariant-loop : goal.invariant-loop
invariant-loop g l = IsOf l.initial.group.lock l.pass
