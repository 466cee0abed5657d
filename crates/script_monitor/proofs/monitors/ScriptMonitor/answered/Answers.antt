use Rattle.script_monitor.proofs.Telling.{changed}
use Rattle.script_monitor.proofs.monitors.ScriptMonitor.answered.Goals as goal

pub invariant_of-self : goal.invariant_of-self
invariant_of-self c = rw c.push.ensures (changed _ _ _ _ _ (c.answered-is_watched.ensures.told _ c.self.invariant))
