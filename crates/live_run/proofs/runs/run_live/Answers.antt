use Rattle.std.proofs.Common.{◌∙◌, ap}
use Rattle.std.specs.Arc.{arc_value}
use Rattle.std.proofs.lemmas.Result.{IfOk-weaker}
use Rattle.live_run.specs.declared.runs.RunEnd.{RunEnd}
use Rattle.live_run.specs.Faults.{fault_in}
use Rattle.live_run.proofs.Counting.{run_binds, run_starts}
use Rattle.live_run.proofs.Running.{run_done}
use Rattle.live_run.proofs.runs.run_live.Goals as goal

pub returns-clause-run : goal.returns-clause-run
returns-clause-run g c =
    let setup = c.in-Ok.setup in
    let served = c.serve-served.result in
    run_done g.D.Dialer.links g.D.Dialer.targets g.D.Dialer.sent g.D.Dialer.count g.D.Dialer.lent c.ended_hosts_stay.ensures.whole c.callers_are_in_order.ensures c.faults_are_counted.ensures
    c.args.live.now setup (arc_value served.group) served.main served.monitor served.tolds c.close_run.result _ _ (g.N.Network.broken c.set_up.new.net) c.in-Ok.ensures.callers.0 c.in-Ok.ensures.ready
    c.in-Ok.ensures.broken c.serve-served.ensures.group c.in-Ok.ensures.callers.1 c.in-Ok.ensures.unused c.serve-served.ensures.hosts c.serve-served.ensures.monitor c.serve-served.ensures.clients c.close_run.ensures.closed

pub returns-clause-binds : goal.returns-clause-binds
returns-clause-binds g c =
    run_binds c.serve-served.result.tolds c.close_run.result _ _ (c.serve-served.ensures.binds.0 ∙ c.in-Ok.ensures.faults) c.serve-served.ensures.binds.1 c.close_run.ensures.faults

pub returns-clause-starts : goal.returns-clause-starts
returns-clause-starts g c =
    run_starts c.serve-served.result.tolds c.close_run.result _ _ c.serve-served.ensures.starts (IfOk-weaker c.close_run.result _ _ (λ (end : RunEnd) closed. ap fault_in closed.0) c.close_run.ensures.closed) c.close_run.ensures.faults
