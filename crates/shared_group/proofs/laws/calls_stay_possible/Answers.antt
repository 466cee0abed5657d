use Rattle.std.proofs.Common.{[]}
use Rattle.shared_group.proofs.Taking.{continues}
use Rattle.shared_group.proofs.laws.calls_stay_possible.Goals as goal

pub returns : goal.returns
returns g c = λ lock pass later made call answer taken may.
    c.may_continues.ensures lock.opening [] pass.seen later.seen call (continues g.S.Servant.machine lock pass later made answer taken) may
