use Rattle.std.proofs.Common.{All}
use Rattle.hist_lock.specs.Passes.{IsOf}
use Rattle.lock_counter.proofs.runs.split_off.Given as goal

abbrev pub invariant-loop : goal.invariant-loop
invariant-loop l = IsOf l.fn.lock l.main × All (IsOf l.fn.lock) l.passes.items
