use Rattle.std.proofs.Common.{◌≡◌, map}
use Rattle.std.specs.List.{range_with_len}
use Rattle.iogr_reference.specs.Choices.{port_of}
use Rattle.host_ports.proofs.ports.ports_in_order.Given as goal

-- the ports so far
abbrev pub invariant-loop-host : goal.invariant-loop-host
invariant-loop-host l = l.ports.items ≡ map port_of (range_with_len 0 l.host)
