use Rattle.std.proofs.Common.{refl}
use Rattle.shared_group.proofs.Doing.{carry_done}
use Rattle.shared_group.proofs.books.Book.carry.Goals as goal

pub returns-in-Some-clause-done : goal.returns-in-Some-clause-done
returns-in-Some-clause-done g c =
    carry_done g.S.Servant.machine _ _ _ c.self.view_is c.in-Some.out c.pop_front.new.self.items c.event_of.result c.act.result c.event_of.ensures
    c.in-Some.ensures.items c.act.ensures.acted refl c.act.ensures.entry
