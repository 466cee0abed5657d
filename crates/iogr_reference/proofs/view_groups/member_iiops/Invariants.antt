use Rattle.std.proofs.Common.{◌≡◌, take}
use Rattle.std.specs.Prelude.{map}
use Rattle.iogr_reference.specs.Views.{iiop_of_host}
use Rattle.iogr_reference.proofs.view_groups.member_iiops.Given as goal

-- the profiles so far
abbrev pub invariant-loop-host : goal.invariant-loop-host
invariant-loop-host l = l.iiops.items ≡ map (iiop_of_host l.group l.view l.ports) (take l.host-index l.host-items)
