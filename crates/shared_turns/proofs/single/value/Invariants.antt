use Rattle.hist_lock.specs.Passes.{IsOf}
use Rattle.shared_turns.proofs.single.value.Given as goal

abbrev pub invariant-loop : goal.invariant-loop
invariant-loop g l = IsOf l.initial.group.lock l.pass
