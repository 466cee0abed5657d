use Rattle.std.proofs.Common.{Option, sym, ap, subst, ◌∙◌}
use Rattle.cdr_codec.specs.declared.orders.Order.TheVariants.{Big}
use Rattle.host_server.specs.declared.answers.PortAnswer.TheVariants.{System}
use Rattle.iogr_reference.specs.declared.references.Ior.{Ior}
use Rattle.message_sizes.specs.Sizes.{answer_size}
use Rattle.sys_faults.specs.declared.faults.SysFault.{SysFault}
use Rattle.ft_world.specs.Requests.{CanRedirect, forward_by}
use Rattle.ft_world.proofs.ReplyLemmas.{no_view_size}
use Rattle.ft_world.proofs.deliveries.redirect_size.Goals as goal

pub returns-in-None : goal.returns-in-None
returns-in-None c = λ perm.
    c.fault_size.ensures
    ∙ ap (λ (f : SysFault). answer_size (System f)) c.no_group.ensures
    ∙ sym no_view_size
    ∙ ap (λ (o : Option Ior). answer_size (forward_by perm o)) (sym c.in-None.is)

pub forward_size-requires : goal.forward_size-requires
forward_size-requires c = subst CanRedirect c.in-Some.is c.requires Big
