use Rattle.shared_group.proofs.Doing.{figures_done}
use Rattle.shared_group.proofs.books.Book.figures.Goals as goal

pub returns-clause-done : goal.returns-clause-done
returns-clause-done g c = figures_done g.S.Servant.machine _ _ c.self.view_is c.core.result.now c.core.ensures c.figures_of.result c.figures_of.ensures
