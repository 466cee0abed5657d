use Rattle.std.proofs.Common.{◌≡◌, ◌<◌, take}
use Rattle.std.specs.List.{AllByRecursion, filter}
use Rattle.ft_base.specs.declared.limits.TheConstants.{HOST_LIMIT}
use Rattle.world_management.specs.Membership.{fits}
use Rattle.world_management.proofs.membership.first_fitting.Given as goal

-- the first that fit of those so far
abbrev pub invariant-loop-host : goal.invariant-loop-host
invariant-loop-host l = record {
  chosen : l.chosen ≡ take l.count (filter (fits l.world l.members) (take l.host-index l.host-items));
  hosts : AllByRecursion (λ host. host < HOST_LIMIT) l.chosen;
}
