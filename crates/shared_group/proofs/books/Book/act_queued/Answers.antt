use Rattle.std.proofs.Common.{subst, sym}
use Rattle.group_model.specs.declared.events.GroupAnswer.{GroupAnswer}
use Rattle.shared_group.specs.Books.{BookPicture}
use Rattle.shared_group.proofs.Doing.{Acted}
use Rattle.shared_group.proofs.books.Book.act_queued.Goals as goal

pub returns-clause-acted : goal.returns-clause-acted
returns-clause-acted g c =
    subst (λ (a : GroupAnswer). Acted g.S.Servant.machine c.args.event a c.args.self.now.core c.act-answer.new.self.core) (sym c.of-whole-2.ensures)
    (subst (λ (b : BookPicture). Acted g.S.Servant.machine c.args.event c.act-answer.result b.core c.act-answer.new.self.core) c.self.view_is c.act-answer.ensures.acted)
