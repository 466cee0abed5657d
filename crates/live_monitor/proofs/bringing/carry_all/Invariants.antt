use Rattle.hist_lock.specs.Passes.{IsOf}
use Rattle.live_monitor.specs.Monitored.{GoesOn}
use Rattle.live_monitor.proofs.bringing.carry_all.Given as goal

abbrev pub invariant-loop : goal.invariant-loop
invariant-loop g l = IsOf l.fn.group.lock l.pass × GoesOn l.fn.pass l.pass
