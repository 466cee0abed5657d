use Rattle.std.proofs.Common.{rules, ◌≡◌, false}
use Rattle.ft_base.specs.Members.{is_member}
use Rattle.property_manager.proofs.HostLemmas.{one_joins}
use Rattle.property_manager.proofs.host_lists.Hosts.with.Goals as goal

pub invariant_of-result : goal.invariant_of-result
invariant_of-result c =
    let new : is_member c.in_ok-host.host c.self.inside.hosts.items ≡ false = search rules in
    one_joins c.self.inside.hosts.items c.push.new.self.items c.in_ok-host.host c.self.invariant c.in_ok-host.ensures.within new c.push.ensures.items
