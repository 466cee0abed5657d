use Rattle.hist_lock.specs.Passes.{IsOf}
use Rattle.shared_turns.proofs.single.run.Given as goal

abbrev pub invariant-loop-id : goal.invariant-loop-id
invariant-loop-id g l = IsOf l.group.lock l.pass

abbrev pub invariant-loop-id-2 : goal.invariant-loop-id-2
invariant-loop-id-2 g l = IsOf l.group.lock l.pass
