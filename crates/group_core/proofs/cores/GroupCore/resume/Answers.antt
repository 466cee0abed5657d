use Rattle.std.proofs.Common.{refl, ap}
use Rattle.ft_base.specs.declared.views.View.{View}
use Rattle.group_core.proofs.Resumes.{resumed_stands}
use Rattle.group_core.proofs.cores.GroupCore.resume.Goals as goal

pub returns-clause-stands : goal.returns-clause-stands
returns-clause-stands g c = λ group may.
    let newest = ap (λ (v : View). v.version.0) c.newest.ensures.value in
    resumed_stands c.replicas_go_on.ensures.blank c.holdbacks_go_on.ensures.empty g.S.Servant.machine c.args.group.0 c.args.style (g.S.Servant.kind c.args.opening) (g.S.Servant.state c.args.opening)
    c.args.log c.args.log c.newest.result.now.version.0 _ refl newest c.in-Ok.ensures group may
