use Rattle.group_model.proofs.Leaving.{refusals_leave}
use Rattle.group_model.proofs.laws.refusals_change_nothing.Goals as goal

pub returns : goal.returns
returns c = refusals_leave
