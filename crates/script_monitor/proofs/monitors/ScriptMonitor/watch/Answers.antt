use Rattle.script_monitor.proofs.Telling.{changed}
use Rattle.script_monitor.proofs.monitors.ScriptMonitor.watch.Goals as goal

pub invariant_of-self-2 : goal.invariant_of-self-2
invariant_of-self-2 c = rw c.push.ensures (changed _ _ _ _ _ (c.in_ok-watch.ensures.watched _ c.self.invariant))
