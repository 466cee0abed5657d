use Rattle.std.proofs.Common.{◌≡◌, map, vec_capacity, length}
use Rattle.live_net.specs.Doors.{ports_of}
use Rattle.live_net.proofs.binds.bind_doors.Given as goal

-- the doors so far have their ports, and the network has counted nothing
abbrev pub invariant-loop-place : goal.invariant-loop-place
invariant-loop-place g l = record {
  doors : length l.doors.items ≡ l.place;
  room : vec_capacity l.doors ≡ l.fn.count;
  ports : l.ports.items ≡ ports_of (map g.A.Acceptor.own_port l.doors.items);
  faults : g.N.Network.count l.net ≡ g.N.Network.count l.fn.net;
  broken : g.N.Network.broken l.net ≡ g.N.Network.broken l.fn.net;
  callers : g.N.Network.callers l.net ≡ g.N.Network.callers l.fn.net;
}
