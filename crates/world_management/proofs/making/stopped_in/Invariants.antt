use Rattle.std.proofs.Common.{◌≡◌, ◌≤◌, false, drop, length}
use Rattle.world_management.specs.Making.{stopped_from}
use Rattle.world_management.proofs.making.stopped_in.Given as goal

-- the hosts so far have stopped where they are down; no servant was called
abbrev pub invariant-loop-number : goal.invariant-loop-number
invariant-loop-number g l = record {
  group : stopped_from l.number (drop l.number l.world.hosts) l.group ≡ stopped_from 0 l.world.hosts l.fn.group;
  kept : l.group.poisoned ≡ false;
  within : l.number ≤ length l.world.hosts;
  steps : l.steps ≡ l.fn.steps;
}
