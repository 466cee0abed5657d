use Rattle.std.proofs.Common.{◌≡◌, ◌++◌, drop, take}
use Rattle.std.specs.Prelude.{map}
use Rattle.script_world.specs.World.{ticked}
use Rattle.script_world.proofs.worlds.raise.Given as goal

-- the clocks so far have gone on, the others not yet
abbrev pub invariant-loop-host : goal.invariant-loop-host
invariant-loop-host l = l.host-items ≡ map (ticked l.ticks) (take l.host-index l.fn.hosts.items) ++ drop l.host-index l.fn.hosts.items
