use Rattle.group_model.specs.Changes.{host_of_change}
use Rattle.group_hosts.specs.Managing.{CanManage}
use Rattle.group_hosts.proofs.Manages.{managed_taken}
use Rattle.group_hosts.proofs.acting.act_at.Goals as goal

pub returns-in-View-clause-turn : goal.returns-in-View-clause-turn
returns-in-View-clause-turn g c = λ group here agrees. rw c.in-View.is (c.hear_view.ensures.turn group _ c.in-View.host c.args.steps.now (rw c.in-View.is at here))

pub returns-in-State-clause-turn : goal.returns-in-State-clause-turn
returns-in-State-clause-turn g c = λ group here agrees.
    let named = rw c.in-State.is at agrees in rw c.in-State.is (c.hear_state.ensures.turn group _ c.in-State.host c.args.steps.now (rw c.in-State.is at here) named.brought)

pub returns-in-Update-clause-turn : goal.returns-in-Update-clause-turn
returns-in-Update-clause-turn g c = λ group here agrees.
    let named = rw c.in-Update.is at agrees in rw c.in-Update.is (c.hear_update.ensures.turn group _ c.in-Update.host c.args.steps.now (rw c.in-Update.is at here) named.brought)

pub returns-in-Order-clause-turn : goal.returns-in-Order-clause-turn
returns-in-Order-clause-turn g c = λ group here agrees.
    let named = rw c.in-Order.is at agrees in rw c.in-Order.is (c.hear_order.ensures.turn group _ c.in-Order.host (rw c.in-Order.is at here) named.brought)

pub returns-in-Crash-clause-turn : goal.returns-in-Crash-clause-turn
returns-in-Crash-clause-turn g c = λ group here agrees. rw c.in-Crash.is (c.crash.ensures.turn group _ c.in-Crash.field-0 c.args.steps.now (rw c.in-Crash.is at here))

pub returns-in-Restart-clause-turn : goal.returns-in-Restart-clause-turn
returns-in-Restart-clause-turn g c = λ group here agrees. rw c.in-Restart.is (c.restart.ensures.turn group _ c.in-Restart.field-0 c.args.steps.now (rw c.in-Restart.is at here))

pub returns-in-Manage-clause-turn : goal.returns-in-Manage-clause-turn
returns-in-Manage-clause-turn g c = λ group here agrees.
    let here' = rw c.in-Manage.is at here in
    let named = rw c.in-Manage.is at agrees in
    let can : CanManage g.S.Servant.machine group.common c.args.founding.now.style c.in-Manage.change c.args.log.now = record { style = here'.style; log = here'.log; hosts = (named.host, named.brought) } in
    rw c.in-Manage.is (managed_taken c.views_join.ensures.replica g.S.Servant.machine group _ c.in-Manage.change _ here' c.manage.result c.args.steps.now c.manage.new.log (c.manage.ensures.managed g.S.Servant.machine group.common (group.hosts (host_of_change c.in-Manage.change).0) can))
