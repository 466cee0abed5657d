use Rattle.std.proofs.Common.{◌≡◌, ◌++◌, true, map}
use Rattle.live_clients.specs.Clients.{AreTold, task_of}
use Rattle.live_clients.proofs.runs.join_clients.Given as goal

-- where nothing is missing, the clients so far were told these
abbrev pub invariant-loop-client : goal.invariant-loop-client
invariant-loop-client g l =
    (l.yielded ++ l.client-iterator.rest.items ≡ l.fn.running.items)
    × (l.whole ≡ true → AreTold g.D.Dialer.links g.D.Dialer.targets g.D.Dialer.sent g.D.Dialer.count (map task_of l.yielded) l.tolds.items (g.N.Network.broken l.fn.net) (g.N.Network.broken l.net))
    × (g.N.Network.count l.net ≡ g.N.Network.count l.fn.net)
    × (g.N.Network.callers l.net ≡ g.N.Network.callers l.fn.net)
