use Rattle.std.proofs.Common.{◌∙◌, Some, ap, sym}
use Rattle.std.specs.Prelude.{option_copied}
use Rattle.ft_base.specs.declared.requests.Outcome.{Outcome}
use Rattle.group_looks.proofs.Looking.{reply_found}
use Rattle.group_looks.proofs.figures.reply_to.Goals as goal

pub returns-in-None : goal.returns-in-None
returns-in-None g c = λ group stands.
    sym (ap option_copied c.in-None.is)
    ∙ reply_found g.S.Servant.machine c.cores_tell.ensures c.args.core.now group stands c.log-log.result.now c.log-log.ensures c.args.key c.position_held.result c.in-Some.position
    (c.position_held.ensures c.args.key c.in_ok-request.ensures) c.in-Some.is c.table.result.now.entries c.table.ensures _ c.reply.ensures

pub returns : goal.returns
returns g c = λ group stands.
    ap (λ (x : Outcome). Some x) c.in_ok-reply-in-Some-reply.ensures
    ∙ sym (ap option_copied c.in-Some-reply.is)
    ∙ reply_found g.S.Servant.machine c.cores_tell.ensures c.args.core.now group stands c.log-log.result.now c.log-log.ensures c.args.key c.position_held.result c.in-Some.position
    (c.position_held.ensures c.args.key c.in_ok-request.ensures) c.in-Some.is c.table.result.now.entries c.table.ensures _ c.reply.ensures
