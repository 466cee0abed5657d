use Rattle.std.proofs.Common.{◌≡◌}
use Rattle.hist_lock.specs.Passes.{IsOf}
use Rattle.live_monitor.specs.Monitored.{GoesOn}
use Rattle.live_monitor.proofs.members.attend_all.Given as goal

abbrev pub invariant-loop-figure : goal.invariant-loop-figure
invariant-loop-figure g l = IsOf l.fn.group.lock l.pass × GoesOn l.fn.pass l.pass × (l.monitor ≡ l.fn.monitor)
