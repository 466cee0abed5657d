use Rattle.script_monitor.proofs.Telling.{changed}
use Rattle.script_monitor.proofs.monitors.ScriptMonitor.unwatch.Goals as goal

pub invariant_of-self : goal.invariant_of-self
invariant_of-self c = rw c.push.ensures (changed _ _ _ _ _ (c.unwatch.ensures _ c.self.invariant))
