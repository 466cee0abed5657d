use Rattle.std.proofs.Common.{◌∙◌, ap, refl}
use Rattle.shared_group.specs.Shared.{asking, view_with}
use Rattle.shared_group.proofs.Doing.{ask_done}
use Rattle.shared_group.proofs.books.Book.ask.Goals as goal

pub act_queued-queued-requires-clause-may : goal.act_queued-queued-requires-clause-may
act_queued-queued-requires-clause-may g c =
    (c.requires.0.group, c.requires.1.stands, (c.requires.1.agrees (asking c.args.host c.args.asked) refl).1)

pub view-view-requires : goal.view-view-requires
view-view-requires g c =
    let a = c.act_queued-queued.ensures.acted c.requires.0.group c.requires.1.stands (c.requires.1.agrees (asking c.args.host c.args.asked) refl).1 in
    (a.0, a.2)

pub returns-clause-done : goal.returns-clause-done
returns-clause-done g c =
    ask_done g.S.Servant.machine _ _ c.args.host c.args.asked c.act_queued-queued.result c.gives-gives.result c.view-view.result
    c.act_queued-queued.ensures.acted c.act_queued-queued.ensures.answer c.act_queued-queued.ensures.queue c.act_queued-queued.ensures.entry
    c.gives-gives.ensures (λ group stands. c.view-view.ensures group stands ∙ ap (view_with group.common) c.version_named.ensures)
