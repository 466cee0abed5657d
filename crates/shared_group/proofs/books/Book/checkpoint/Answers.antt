use Rattle.shared_group.proofs.Doing.{checkpoint_done}
use Rattle.shared_group.proofs.books.Book.checkpoint.Goals as goal

pub returns-in-Some-clause-done : goal.returns-in-Some-clause-done
returns-in-Some-clause-done g c =
    checkpoint_done g.S.Servant.machine _ _ c.takers_may_take.ensures.checkpoint c.in-Some.host c.args.clock c.act_queued.result
    c.act_queued.ensures.acted c.act_queued.ensures.answer c.act_queued.ensures.queue c.act_queued.ensures.entry
    c.in-Some.ensures
