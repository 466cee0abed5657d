use Rattle.std.proofs.Common.{◌≡◌, ◌<◌, drop, []}
use Rattle.std.specs.List.{AllByRecursion}
use Rattle.ft_base.specs.declared.limits.TheConstants.{HOST_LIMIT}
use Rattle.log_records.specs.Records.{members_from}
use Rattle.log_records.proofs.reading.members_of.Given as goal

-- those that joined, which are hosts, and those that are left
abbrev pub invariant-loop-host : goal.invariant-loop-host
invariant-loop-host l =
    (members_from l.members (drop l.host-index l.hosts) ≡ members_from [] l.hosts) × AllByRecursion (λ host. host < HOST_LIMIT) l.members
