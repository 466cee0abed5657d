-- Every host has its port among all, and is found by it.
use Rattle.std.proofs.Common.{◌≡◌, ℕ, ◌<◌, length, arith}
use Rattle.std.specs.Prelude.{slice_index}
use Rattle.std.proofs.lemmas.List.FromFn.{length-map-range_with_len, get_or-map-range_with_len}
use Rattle.ft_base.specs.declared.limits.TheConstants.{HOST_LIMIT}
use Rattle.iogr_reference.specs.Choices.{port_of}
use Rattle.host_ports.specs.Ports.{all_ports}

pub ports_count : length all_ports ≡ HOST_LIMIT
unfolding all_ports
ports_count = length-map-range_with_len port_of 0 HOST_LIMIT

pub port_at : (host : ℕ) → host < HOST_LIMIT → slice_index all_ports host ≡ port_of host
unfolding all_ports
port_at host below = get_or-map-range_with_len port_of 0 HOST_LIMIT host host 0 below (omega arith)
