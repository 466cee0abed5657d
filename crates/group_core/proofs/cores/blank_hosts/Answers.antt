use Rattle.group_core.proofs.Resumes.{one_more_blank}
use Rattle.group_core.proofs.cores.blank_hosts.Goals as goal

pub loop-number-preserved : goal.loop-number-preserved
loop-number-preserved g c =
    rw c.in_ok-push.ensures.items
    (one_more_blank (g.S.Servant.kind c.args.founding.now.opening) (g.S.Servant.state c.args.founding.now.opening) c.loop-number.hosts.items c.in_ok-host.host c.loop-number._number c.loop-number.invariant c.in_ok-host.ensures)
