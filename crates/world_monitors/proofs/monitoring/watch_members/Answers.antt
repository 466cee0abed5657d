use Rattle.world_monitors.proofs.PollingLemmas.{none_watched, watched_more}
use Rattle.world_monitors.proofs.monitoring.watch_members.Goals as goal

pub loop-host-init : goal.loop-host-init
loop-host-init c = none_watched c.id-group.result.0 c.copy-members.result c.monitored-numbers.result c.args.world.now

pub loop-host-preserved : goal.loop-host-preserved
loop-host-preserved c =
    watched_more c.id-group.result.0 c.copy-members.result c.monitored-numbers.result c.args.world.now c.loop-host.world c.watch_host.new.world c.loop-host.host
    c.loop-host.invariant c.in_ok-watch_host.ensures
