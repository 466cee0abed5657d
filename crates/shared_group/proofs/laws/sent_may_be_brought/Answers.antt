use Rattle.shared_group.proofs.Taking.{sent_may_on}
use Rattle.shared_group.proofs.laws.sent_may_be_brought.Goals as goal

pub returns : goal.returns
returns g c = sent_may_on g.S.Servant.machine c.what_is_sent_agrees.ensures
