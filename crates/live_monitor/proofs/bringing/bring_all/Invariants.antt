use Rattle.hist_lock.specs.Passes.{IsOf}
use Rattle.live_monitor.specs.Monitored.{GoesOn}
use Rattle.live_monitor.proofs.Turning.{MayAllCome}
use Rattle.live_monitor.proofs.bringing.bring_all.Given as goal

-- what is left may still come
abbrev pub invariant-loop-out : goal.invariant-loop-out
invariant-loop-out g l =
    IsOf l.fn.group.lock l.pass × GoesOn l.fn.pass l.pass × MayAllCome g.S.Servant.machine l.fn.group.lock l.pass l.out-iterator.rest.items
