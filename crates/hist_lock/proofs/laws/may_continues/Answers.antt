use Rattle.hist_lock.proofs.Acts.{may_along}
use Rattle.hist_lock.proofs.laws.may_continues.Goals as goal

pub returns : goal.returns
returns g c = λ opening numbers seen history event continues may. may_along g.O.Object.may c.lasts.ensures opening event numbers seen history continues may
