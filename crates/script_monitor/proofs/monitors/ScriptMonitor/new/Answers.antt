use Rattle.script_monitor.proofs.Telling.{opened}
use Rattle.script_monitor.proofs.monitors.ScriptMonitor.new.Goals as goal

pub invariant_of-result : goal.invariant_of-result
invariant_of-result c = rw c.new-2.ensures (opened _ c.new.ensures)
