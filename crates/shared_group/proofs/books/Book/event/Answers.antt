use Rattle.std.proofs.Common.{refl}
use Rattle.shared_group.proofs.Doing.{event_done}
use Rattle.shared_group.proofs.books.Book.event.Goals as goal

pub returns-clause-done : goal.returns-clause-done
returns-clause-done g c = event_done g.S.Servant.machine _ _ _ c.self.view_is c.args.event c.act.result c.act.ensures.acted refl c.act.ensures.entry
