use Rattle.std.proofs.Common.{◌≡◌, take}
use Rattle.std.specs.List.{filter}
use Rattle.world_monitors.specs.Monitoring.{is_overdue_in}
use Rattle.world_monitors.proofs.monitoring.overdue.Given as goal

-- those of the members so far
abbrev pub invariant-loop-host : goal.invariant-loop-host
invariant-loop-host l = l.overdue.items ≡ filter (is_overdue_in l.world l.group.0) (take l.host-index l.host-items)
