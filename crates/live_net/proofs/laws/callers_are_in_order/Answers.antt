use Rattle.live_net.proofs.Calling.{in_order}
use Rattle.live_net.proofs.laws.callers_are_in_order.Goals as goal

pub returns : goal.returns
returns c = in_order
