use Rattle.std.proofs.Common.{length}
use Rattle.group_hosts.specs.Asking.{parts}
use Rattle.group_hosts.proofs.Enters.{has_come, has_stopped}
use Rattle.group_hosts.proofs.entering.catch_up_here.Goals as goal

pub returns-in-Ok-clause-caught_up : goal.returns-in-Ok-clause-caught_up
returns-in-Ok-clause-caught_up g c = λ common h can.
    has_come c.holdbacks_go_on.ensures.ran c.holdbacks_go_on.ensures.dropped g.S.Servant.machine common h _ _
    (parts c.args.log.now c.args.progress.now.replica c.args.progress.now.holdback c.args.steps.now)
    (parts c.catch_up-caught.new.log c.catch_up-caught.new.replica c.drop_below.new.self c.catch_up-caught.new.steps)
    (length common.journal) c.position.result can (c.in-Ok.ensures.caught_up common h can.stand.log can.stand.replica can.opening) c.position.ensures c.drop_below.ensures

pub returns-in-Err-clause-stopped : goal.returns-in-Err-clause-stopped
returns-in-Err-clause-stopped g c = λ common h can.
    has_stopped c.holdbacks_go_on.ensures.ran c.holdbacks_go_on.ensures.dropped g.S.Servant.machine common h _ _
    (parts c.args.log.now c.args.progress.now.replica c.args.progress.now.holdback c.args.steps.now)
    (parts c.catch_up-caught.new.log c.catch_up-caught.new.replica c.drop_below.new.self c.catch_up-caught.new.steps)
    c.position.result can c.position.ensures c.drop_below.ensures (c.in-Err.ensures.stopped common h can.stand.log can.stand.replica can.opening)
