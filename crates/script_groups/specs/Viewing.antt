-- What a contract sees of a group.
use Rattle.script_groups.specs.Groups.{ScriptGroup}
use Rattle.script_groups.specs.declared.groups.ScriptGroup.TheInside.{Inside}

abbrev pub seen : Inside → ScriptGroup
seen g = record {
  id = g.id;
  name = g.name;
  kind = g.kind;
  style = g.style;
  members = g.members;
  happenings = g.history;
  poisoned = g.poisoned;
}
