use Rattle.std.proofs.Common.{All}
use Rattle.hist_lock.specs.Passes.{IsOf}
use Rattle.lock_counter.proofs.runs.join_all.Given as goal

abbrev pub invariant-loop-pass : goal.invariant-loop-pass
invariant-loop-pass l = IsOf l.initial.lock l.main × All (IsOf l.initial.lock) l.passes.items

abbrev pub decreases-loop-pass : goal.decreases-loop-pass
decreases-loop-pass l = goal.left-loop-pass l
