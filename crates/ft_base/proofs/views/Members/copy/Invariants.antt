use Rattle.std.proofs.Common.{◌≡◌, take}
use Rattle.ft_base.proofs.views.Members.copy.Given as goal

-- the members so far
abbrev pub invariant-loop-host : goal.invariant-loop-host
invariant-loop-host l = l.hosts.items ≡ take l.host-index l.host-items
