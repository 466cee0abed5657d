use Rattle.group_core.proofs.Tells.{memory_told}
use Rattle.group_core.proofs.laws.want_of_memory_is_told.Goals as goal

pub returns : goal.returns
returns c = memory_told c.logs_tell.ensures.tell
