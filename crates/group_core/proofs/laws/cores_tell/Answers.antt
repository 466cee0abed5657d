use Rattle.group_core.proofs.Tells.{cores}
use Rattle.group_core.proofs.laws.cores_tell.Goals as goal

pub returns : goal.returns
returns c = cores c.logs_tell.ensures.tell c.logs_reply.ensures c.views_are_shown.ensures.shown c.views_are_shown.ensures.others
