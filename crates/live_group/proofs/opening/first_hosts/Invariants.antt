use Rattle.std.proofs.Common.{◌≡◌}
use Rattle.live_group.specs.Opening.{first_hosts}
use Rattle.live_group.proofs.opening.first_hosts.Given as goal

-- the hosts so far
abbrev pub invariant-loop-host : goal.invariant-loop-host
invariant-loop-host l = l.members ≡ first_hosts l.host
