use Rattle.std.proofs.Common.{◌<◌, arith, subst, sym}
use Rattle.std.specs.List.{AllByRecursion}
use Rattle.ft_base.specs.declared.limits.TheConstants.{HOST_LIMIT}
use Rattle.ft_base.specs.declared.views.View.{View}
use Rattle.live_group.proofs.Hosts.{hosts_below}
use Rattle.live_group.proofs.opening.open_group.Goals as goal

pub returns-in-Ok-new-2-clause-view : goal.returns-in-Ok-new-2-clause-view
returns-in-Ok-new-2-clause-view g c = c.opened_view-view.ensures _ c.in-Ok.ensures.stands

pub returns-in-Ok-new-2-clause-hosts : goal.returns-in-Ok-new-2-clause-hosts
returns-in-Ok-new-2-clause-hosts g c =
    subst (λ (v : View). AllByRecursion (λ host. host < HOST_LIMIT) v.members) (sym (c.opened_view-view.ensures _ c.in-Ok.ensures.stands))
    (hosts_below c.args.hosts HOST_LIMIT (omega (arith, c.requires.few)))
