use Rattle.std.proofs.Common.{◌≡◌, map, vec_capacity, length}
use Rattle.std.specs.List.{AllByRecursion}
use Rattle.live_net.specs.Callers.{AreCallers, IsUnused}
use Rattle.live_net.proofs.callers.make_callers.Given as goal

-- so many were made
abbrev pub invariant-loop-made : goal.invariant-loop-made
invariant-loop-made g l = record {
  all : length l.callers.items ≡ l._made;
  room : vec_capacity l.callers ≡ l.fn.count;
  callers : AreCallers (g.N.Network.callers l.fn.net) (g.N.Network.callers l.net) (map g.D.Dialer.links l.callers.items);
  unused : AllByRecursion (λ c. IsUnused (g.D.Dialer.count c) (g.D.Dialer.lent c) (g.D.Dialer.sent c) (g.D.Dialer.targets c)) l.callers.items;
  faults : g.N.Network.count l.net ≡ g.N.Network.count l.fn.net;
  broken : g.N.Network.broken l.net ≡ g.N.Network.broken l.fn.net;
}
