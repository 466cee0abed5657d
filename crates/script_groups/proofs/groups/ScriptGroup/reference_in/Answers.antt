use Rattle.script_groups.proofs.Lists.{ports_reach}
use Rattle.script_groups.proofs.groups.ScriptGroup.reference_in.Goals as goal

pub view_reference-requires : goal.view_reference-requires
view_reference-requires c = ports_reach c.args.ports.now c.args.view.now.members c.requires.ports c.requires.hosts
