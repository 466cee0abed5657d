-- The ports of all hosts.
use Rattle.std.specs.Prelude.{ℕ, ◌-◌, ◌&&◌, nat_lt, nat_le, if◌then◌else◌, List, map, Option, Some, None}
use Rattle.std.specs.List.{range_with_len}
use Rattle.ft_base.specs.declared.limits.TheConstants.{HOST_LIMIT}
use Rattle.ft_base.specs.declared.numbers.HostNo.{HostNo}
use Rattle.iogr_reference.specs.Choices.{port_of}
use Rattle.iogr_reference.specs.declared.choices.TheConstants.{FIRST_PORT}

-- the port of each host, by the host's number
unfoldable pub all_ports : List ℕ
all_ports = map port_of (range_with_len 0 HOST_LIMIT)

-- the host that listens at a port
abbrev pub host_at : ℕ → Option HostNo
host_at port =
    if nat_le FIRST_PORT port && nat_lt (port - FIRST_PORT) HOST_LIMIT then Some (record { 0 = port - FIRST_PORT }) else None
