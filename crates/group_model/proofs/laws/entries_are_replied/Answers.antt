use Rattle.group_model.proofs.Replying.{entries_are_replied}
use Rattle.group_model.proofs.laws.entries_are_replied.Goals as goal

pub returns : goal.returns
returns c = entries_are_replied
