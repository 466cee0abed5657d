use Rattle.std.proofs.Common.{max}
use Rattle.group_model.specs.Serving.{joined}
use Rattle.passive_dispatch.specs.Served.{seen}
use Rattle.passive_dispatch.proofs.Serves.{can_run, run_and_stopped, run_and_told}
use Rattle.passive_dispatch.proofs.running.run_joined.Goals as goal

pub returns-in-Ok-clause-run : goal.returns-in-Ok-clause-run
returns-in-Ok-clause-run g c = λ common h host clock request has at.
    let machines = g.S.Servant.machine in
    let before = seen c.args.log.now c.args.replica.now c.args.steps.now in
    let now = seen c.run_next-ran.new.log c.blank-in-AfterExecute.new.self c.run_next-ran.new.steps in
    let can = can_run c.replicas_go_on.ensures.joined c.replicas_go_on.ensures.blank machines common clock request h.place before has in
    let ran = c.in-Ok.ensures.run (joined common (max clock common.time) request) h.place can in
    rw (c.in-AfterExecute.is, c.done-in-Ok.ensures)
    (run_and_stopped c.replicas_go_on.ensures.joined c.replicas_go_on.ensures.blank machines common clock request h host before now c.run_next-ran.new.replica c.args.position c.in-Ok._outcome
    has at ran c.blank-in-AfterExecute.ensures c.run_next-ran.ensures.counted)

pub returns-in-Ok-run_next-clause-run : goal.returns-in-Ok-run_next-clause-run
returns-in-Ok-run_next-clause-run g c = λ common h host clock request has at.
    let machines = g.S.Servant.machine in
    let before = seen c.args.log.now c.args.replica.now c.args.steps.now in
    let now = seen c.run_next.new.log c.run_next.new.replica c.run_next.new.steps in
    let can = can_run c.replicas_go_on.ensures.joined c.replicas_go_on.ensures.blank machines common clock request h.place before has in
    let ran = c.in-Ok-run_next.ensures.run (joined common (max clock common.time) request) h.place can in
    rw (c.in-Never.is, c.done-in-Ok-run_next.ensures)
    (run_and_told c.replicas_go_on.ensures.joined c.replicas_go_on.ensures.blank machines common clock request h host before now c.args.position c.in-Ok-run_next.outcome
    has at ran c.run_next.ensures.counted)
