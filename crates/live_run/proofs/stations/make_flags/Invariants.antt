use Rattle.std.proofs.Common.{◌≡◌, length}
use Rattle.live_run.proofs.stations.make_flags.Given as goal

-- the flags so far
abbrev pub invariant-loop : goal.invariant-loop
invariant-loop l = length l.flags.items ≡ l.counter
