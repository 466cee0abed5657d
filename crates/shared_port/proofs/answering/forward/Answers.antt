use Rattle.std.proofs.Common.{List, Option, subst, ℕ}
use Rattle.std.specs.Prelude.{IfSome}
use Rattle.ft_base.specs.Text.{IsName}
use Rattle.ft_base.specs.declared.views.View.{View}
use Rattle.shared_port.specs.Answers.{IsShortView}
use Rattle.shared_port.proofs.Forms.{can_be_sent}
use Rattle.shared_port.proofs.answering.forward.Goals as goal

pub returns-in-Ok-clause-can : goal.returns-in-Ok-clause-can
returns-in-Ok-clause-can g c = λ _ order.
    can_be_sent c.view_references_can_be_sent.ensures c.args.group.now c.in-Some.view c.in-Ok.body
    (subst (λ (text : List ℕ). IsName text) c.type_id.ensures c.bytes-type_id.ensures.name)
    (subst (λ (o : Option View). IfSome o IsShortView) c.in-Some.is c.requires) c.in-Ok.ensures order
