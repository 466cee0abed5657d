use Rattle.group_model.proofs.Sending.{sent_agrees}
use Rattle.group_model.proofs.laws.what_is_sent_agrees.Goals as goal

pub returns : goal.returns
returns c = sent_agrees
