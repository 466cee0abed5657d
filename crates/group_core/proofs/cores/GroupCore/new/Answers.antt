use Rattle.std.proofs.Common.{◌≤◌, ℕ, subst, length}
use Rattle.ft_base.specs.declared.views.TheConstants.{MEMBER_LIMIT}
use Rattle.group_core.proofs.Opens.{opening_stands}
use Rattle.group_core.proofs.cores.GroupCore.new.Goals as goal

pub returns-in-Ok-new-clause-stands : goal.returns-in-Ok-new-clause-stands
returns-in-Ok-new-clause-stands g c =
    let machines = g.S.Servant.machine in
    let view = c.first_view-view.ensures in
    let few : length c.args.members ≤ MEMBER_LIMIT = subst (λ (n : ℕ). n ≤ MEMBER_LIMIT) c.len-limit.ensures.count c.len-limit.ensures.limit in
    opening_stands c.replicas_go_on.ensures.opened c.replicas_go_on.ensures.blank c.holdbacks_go_on.ensures.empty machines c.args.group.0 c.args.style (g.S.Servant.kind c.args.opening) (g.S.Servant.state c.args.opening) c.args.members
    c.logs_go_on.ensures.fresh (g.met.S.Servant.has_state c.args.opening) few c.requires.different c.requires.hosts _ _ _ _ (rw view at c.in-Ok.ensures) (rw view at c.in-Ok-new.ensures.1)
