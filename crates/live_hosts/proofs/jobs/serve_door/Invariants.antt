use Rattle.hist_lock.specs.Passes.{IsOf}
use Rattle.shared_port.specs.Turns.{Moves}
use Rattle.live_hosts.proofs.jobs.serve_door.Given as goal

abbrev pub invariant-loop : goal.invariant-loop
invariant-loop g l = IsOf l.fn.group.lock l.pass × Moves l.fn.host.0 l.fn.pass l.pass
