use Rattle.std.proofs.Common.{length, refl}
use Rattle.group_model.specs.declared.events.Event.TheVariants as events
use Rattle.group_model.specs.Plain.{with_ran}
use Rattle.group_model.specs.Transfers.{taking}
use Rattle.group_hosts.specs.Taking.{CanTake}
use Rattle.group_hosts.proofs.Takes.{update_takes, update_given, short_unready}
use Rattle.group_hosts.proofs.hosts.GroupHost.send_update.Goals as goal

pub returns-in-Err-clause-turn : goal.returns-in-Err-clause-turn
returns-in-Err-clause-turn g c = λ group style here.
    let machines = g.S.Servant.machine in
    let here' = rw (← c.self.view_is) at here in
    let unready = c.in-Err.ensures.stopped group.common (group.hosts c.args.host.0) style here in
    short_unready machines group _ (events.SendUpdate c.args.host) _ here' (update_takes machines group _ c.args.host _ here' c.if-not-self.false)
    c.args.steps.now c.prepare.new.steps unready.1 c.prepare.new.log c.prepare.new.self unready.0

pub take_changes-requires : goal.take_changes-requires
take_changes-requires g c =
    let r = c.requires in
    let h = r.0.hosts c.args.host.0 in
    let done = c.in_default.ensures.ready r.0.common h r.1 r.2 in
    let ready = rw (← c.self-2.view_is) at done.0 in (
      with_ran (length r.0.common.journal) r.0.common,
      taking r.0.common h,
      record { style = refl; log = ready.log; replica = ready.host.replica; caught_up = ready.caught_up },
    )

pub returns-clause-turn : goal.returns-clause-turn
returns-clause-turn g c = λ group style here.
    let machines = g.S.Servant.machine in
    let here' = rw (← c.self.view_is) at here in
    let h = group.hosts c.args.host.0 in
    let done = c.in_default.ensures.ready group.common h style here in
    let ready = rw (← c.self-2.view_is) at done.0 in
    let can : CanTake machines (with_ran (length group.common.journal) group.common) (taking group.common h) group.common.style c.prepare.new.log c.self-2.inside.progress.replica = record { style = refl; log = ready.log; replica = ready.host.replica; caught_up = ready.caught_up } in
    update_given machines group _ c.args.host _ here' c.if-not-self.false c.take_changes.result c.args.steps.now c.prepare.new.steps c.prepare.new.log _ c.take_changes.new.replica
    ready (c.take_changes.ensures.given (with_ran (length group.common.journal) group.common) (taking group.common h) can) done.1
