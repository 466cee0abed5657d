use Rattle.shared_group.proofs.May.{free_may}
use Rattle.shared_group.proofs.laws.free_calls_may_be_made.Goals as goal

pub returns : goal.returns
returns g c = free_may g.S.Servant.machine
