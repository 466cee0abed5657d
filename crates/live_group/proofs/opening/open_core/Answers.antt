use Rattle.std.proofs.Common.{subst, sym, arith, List, ℕ, ◌<◌}
use Rattle.std.specs.List.{AllByRecursion}
use Rattle.ft_base.specs.declared.limits.TheConstants.{HOST_LIMIT}
use Rattle.live_group.proofs.Hosts.{hosts_below}
use Rattle.live_group.proofs.opening.open_core.Goals as goal

pub new-requires-clause-hosts : goal.new-requires-clause-hosts
new-requires-clause-hosts g c =
    subst (λ (l : List ℕ). AllByRecursion (λ host. host < HOST_LIMIT) l) (sym c.first_hosts-members.ensures) (hosts_below c.args.hosts HOST_LIMIT (omega (arith, c.requires.few)))
