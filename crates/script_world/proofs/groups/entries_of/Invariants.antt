use Rattle.std.proofs.Common.{◌≡◌, ◌*◌, ◌≤◌, take}
use Rattle.script_groups.specs.Groups.{entries_of}
use Rattle.script_world.proofs.groups.entries_of.Given as goal

-- the entries of the groups so far
abbrev pub invariant-loop-group : goal.invariant-loop-group
invariant-loop-group l = record {
  so_far : l.total ≡ entries_of (take l.group-index l.groups);
  within : l.total ≤ 4294967295 * l.group-index;
}
