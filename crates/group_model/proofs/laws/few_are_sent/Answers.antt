use Rattle.group_model.proofs.Amounts.{few_are_sent}
use Rattle.group_model.proofs.laws.few_are_sent.Goals as goal

pub returns : goal.returns
returns c = few_are_sent
