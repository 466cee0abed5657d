use Rattle.std.proofs.Common.{◌∙◌, ℕ, ◌++◌, List, [], ◌∷◌, ap, arith, length}
use Rattle.ft_base.specs.Members.{is_member}
use Rattle.live_group.proofs.Hosts.{as_many, next_is_new, one_host_more}
use Rattle.live_group.proofs.opening.first_hosts.Goals as goal

pub join-requires-clause-room : goal.join-requires-clause-room
join-requires-clause-room c = let many = ap length c.loop-host.invariant ∙ as_many c.loop-host.host in omega (arith, many, c.requires, c.loop-host-test.true)

pub join-requires-clause-new : goal.join-requires-clause-new
join-requires-clause-new c = ap (is_member c.loop-host.host) c.loop-host.invariant ∙ next_is_new c.loop-host.host

pub loop-host-preserved : goal.loop-host-preserved
loop-host-preserved c = c.join.ensures ∙ ap (λ (l : List ℕ). l ++ c.loop-host.host ∷ []) c.loop-host.invariant ∙ one_host_more c.loop-host.host
