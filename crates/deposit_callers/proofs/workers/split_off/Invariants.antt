use Rattle.std.proofs.Common.{All}
use Rattle.hist_lock.specs.Passes.{IsOf}
use Rattle.deposit_callers.proofs.workers.split_off.Given as goal

abbrev pub invariant-loop-number : goal.invariant-loop-number
invariant-loop-number g l = IsOf l.fn.group.lock l.main × All (λ worker. IsOf l.fn.group.lock worker.pass) l.workers.items
