use Rattle.world_turns.proofs.NamingLemmas.{never_made}
use Rattle.world_turns.proofs.naming.group_called.Goals as goal

pub returns-in-None : goal.returns-in-None
returns-in-None c = never_made c.args.world.now _ c.in-None.ensures
