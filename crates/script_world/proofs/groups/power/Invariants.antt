use Rattle.std.proofs.Common.{◌≡◌, ◌++◌, drop, take}
use Rattle.script_groups.specs.Groups.{all_acted}
use Rattle.script_world.specs.Worlds.{power_event}
use Rattle.script_world.proofs.groups.power.Given as goal

-- the groups so far have had the event, the others not yet; no servant was called
abbrev pub invariant-loop-group : goal.invariant-loop-group
invariant-loop-group g l = record {
  groups : l.group-items ≡ all_acted (power_event l.up l.host) (take l.group-index l.fn.groups.items) ++ drop l.group-index l.fn.groups.items;
  steps : l.steps ≡ l.fn.steps;
}
