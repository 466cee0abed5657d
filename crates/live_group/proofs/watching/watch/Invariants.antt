use Rattle.std.proofs.Common.{◌≡◌}
use Rattle.hist_lock.specs.Passes.{IsOf, own_turns}
use Rattle.live_monitor.specs.Monitored.{IsMonitored}
use Rattle.live_group.proofs.watching.watch.Given as goal

abbrev pub invariant-loop : goal.invariant-loop
invariant-loop g l = IsOf l.fn.group.lock l.main × (l.main.number ≡ l.fn.main.number) × (l.monitor.kill ≡ l.fn.monitor.kill) × IsMonitored l.monitor (own_turns l.main)
