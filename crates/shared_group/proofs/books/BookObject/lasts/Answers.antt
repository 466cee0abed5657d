use Rattle.shared_group.proofs.Longer.{may_lasts}
use Rattle.shared_group.proofs.books.BookObject.lasts.Goals as goal

pub returns : goal.returns
returns g c = may_lasts g.S.Servant.machine c.steps_go_on.ensures.agree
