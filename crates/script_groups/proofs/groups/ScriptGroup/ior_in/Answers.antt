use Rattle.script_groups.proofs.Lists.{ports_reach}
use Rattle.script_groups.proofs.groups.ScriptGroup.ior_in.Goals as goal

pub ref_of-requires : goal.ref_of-requires
ref_of-requires c = ports_reach c.args.ports.now c.args.view.now.members c.requires.ports c.requires.hosts
