use Rattle.std.proofs.Common.{◌≡◌}
use Rattle.std.specs.List.{range_with_len}
use Rattle.script_world.specs.World.{with_watch}
use Rattle.world_monitors.specs.Monitoring.{watched_at_all}
use Rattle.world_monitors.proofs.monitoring.watch_members.Given as goal

-- the hosts so far
abbrev pub invariant-loop-host : goal.invariant-loop-host
invariant-loop-host l =
    l.world ≡ with_watch l.fn.world (watched_at_all l.fn.world.watch l.group.0 l.members l.numbers (range_with_len 0 l.host))
