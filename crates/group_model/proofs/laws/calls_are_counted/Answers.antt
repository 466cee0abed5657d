use Rattle.group_model.proofs.Counting.{calls_counted}
use Rattle.group_model.proofs.laws.calls_are_counted.Goals as goal

pub returns : goal.returns
returns c = calls_counted
