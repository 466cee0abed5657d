use Rattle.std.proofs.Common.{Some, ap, sym, refl, ◌∙◌}
use Rattle.ft_base.specs.Journal.{reply_at}
use Rattle.ft_base.specs.declared.admissions.Admission.TheVariants.{Same, New}
use Rattle.message_log.specs.declared.answers.Admit.TheVariants as admits
use Rattle.message_log.specs.Calls.{reserved_for}
use Rattle.ft_outside.specs.Outside.{next_count}
use Rattle.ft_outside.specs.Keeping.{plan_after}
use Rattle.passive_dispatch.specs.Served.{seen}
use Rattle.passive_dispatch.proofs.Serves.{says, repeat_reply, repeat_told, repeat_written, has_joined, position_is, failed_served, new_served}
use Rattle.passive_dispatch.proofs.serving.serve.Goals as goal

pub repeat-requires : goal.repeat-requires
repeat-requires g c =
    let r = c.requires in (
      reply_at (g.S.Servant.machine r.0.kind) r.0.opening r.0.journal c.in-Same.position,
      repeat_reply c.logs_admit.ensures c.repeats_are_answered.ensures.caught_up g.S.Servant.machine r.0 r.1 c.args.version.0 c.args.arrival.clock.0 c.args.request
          (seen c.args.log.now c.args.replica.now c.args.steps.now) c.in-Same.position r.2 (ap admits.Admission (sym c.in-Same.is) ∙ c.in-Admission.ensures),
    )

pub returns-in-Same-clause-served : goal.returns-in-Same-clause-served
returns-in-Same-clause-served g c = λ common h can.
    let machines = g.S.Servant.machine in
    let now = seen c.args.log.now c.args.replica.now c.args.steps.now in
    let there = repeat_reply c.logs_admit.ensures c.repeats_are_answered.ensures.caught_up machines common h.place c.args.version.0 c.args.arrival.clock.0 c.args.request now c.in-Same.position can (ap admits.Admission (sym c.in-Same.is) ∙ c.in-Admission.ensures) in
    let said = says c.logs_admit.ensures machines common h.place c.args.version.0 c.args.arrival.clock.0 c.args.request now (Same c.in-Same.position) can (ap admits.Admission (sym c.in-Same.is) ∙ c.in-Admission.ensures) in
    repeat_told machines common h c.args.arrival.host.0 c.args.version.0 c.args.arrival.clock.0 c.args.request c.args.arrival.stop now c.in-Same.position c.repeat.result can said
    (c.repeat.ensures (reply_at (machines common.kind) common.opening common.journal c.in-Same.position) there)

pub returns-in-Same-clause-written : goal.returns-in-Same-clause-written
returns-in-Same-clause-written g c =
    let r = c.requires in
    let there = repeat_reply c.logs_admit.ensures c.repeats_are_answered.ensures.caught_up g.S.Servant.machine r.0 r.1 c.args.version.0 c.args.arrival.clock.0 c.args.request
    (seen c.args.log.now c.args.replica.now c.args.steps.now) c.in-Same.position r.2 (ap admits.Admission (sym c.in-Same.is) ∙ c.in-Admission.ensures) in
    repeat_written c.in-Same.position _ c.repeat.result c.args.log.now c.args.version c.args.arrival.clock c.args.request (c.repeat.ensures _ there)

pub returns-in-Failed-clause-served : goal.returns-in-Failed-clause-served
returns-in-Failed-clause-served g c = λ common h can.
    let machines = g.S.Servant.machine in
    let before = seen c.args.log.now c.args.replica.now c.args.steps.now in
    let reserved = Some (reserved_for c.args.log.now c.args.version c.args.arrival.clock c.args.request) in
    let said = says c.logs_admit.ensures machines common h.place c.args.version.0 c.args.arrival.clock.0 c.args.request before New can (ap admits.Admission (sym c.in-New.is) ∙ c.in-Admission.ensures) in
    rw c.unwritten.ensures
    (failed_served c.logs_go_on.ensures.beside machines common h c.args.arrival.host.0 c.args.version.0 c.args.arrival.clock.0 c.args.request c.args.arrival.stop before
    c.reserve.new.self c.append_reserved.new.self reserved c.reserve.new.self.records (plan_after c.reserve.new.self.plan) (next_count c.reserve.new.self.faults) can said
    c.in_default-reserve.ensures.ok c.in-Failed.ensures.1)

pub run_joined-requires : goal.run_joined-requires
run_joined-requires g c =
    let machines = g.S.Servant.machine in
    let r = c.requires in
    let reserved = Some (reserved_for c.args.log.now c.args.version c.args.arrival.clock c.args.request) in
    let has = has_joined c.logs_go_on.ensures.beside c.logs_go_on.ensures.joined c.repeats_are_answered.ensures.run machines r.0 r.1 c.args.version c.args.arrival.clock c.args.request
    (seen c.args.log.now c.args.replica.now c.args.steps.now) c.reserve.new.self c.append_reserved.new.self reserved r.2 (sym (ap admits.Admission (sym c.in-New.is) ∙ c.in-Admission.ensures)) c.in_default-reserve.ensures.ok c.in-At.ensures.2 in
    let at = position_is machines r.0 c.reserve.new.self c.args.log.now reserved c.in-At.position c.in_default-reserve.ensures.ok
    (c.logs_tell.ensures.tell machines r.0 c.args.log.now r.2.log).end c.in-At.ensures.0 in
    (r.0, r.1, c.args.arrival.clock.0, c.args.request, has, at)

pub returns-in-At-clause-served : goal.returns-in-At-clause-served
returns-in-At-clause-served g c = λ common h can.
    let machines = g.S.Servant.machine in
    let before = seen c.args.log.now c.args.replica.now c.args.steps.now in
    let reserved = Some (reserved_for c.args.log.now c.args.version c.args.arrival.clock c.args.request) in
    let has = has_joined c.logs_go_on.ensures.beside c.logs_go_on.ensures.joined c.repeats_are_answered.ensures.run machines common h.place c.args.version c.args.arrival.clock c.args.request
    before c.reserve.new.self c.append_reserved.new.self reserved can (sym (ap admits.Admission (sym c.in-New.is) ∙ c.in-Admission.ensures)) c.in_default-reserve.ensures.ok c.in-At.ensures.2 in
    let at = position_is machines common c.reserve.new.self c.args.log.now reserved c.in-At.position c.in_default-reserve.ensures.ok
    (c.logs_tell.ensures.tell machines common c.args.log.now can.log).end c.in-At.ensures.0 in
    let said = says c.logs_admit.ensures machines common h.place c.args.version.0 c.args.arrival.clock.0 c.args.request before New can (ap admits.Admission (sym c.in-New.is) ∙ c.in-Admission.ensures) in
    new_served machines common h c.args.arrival.host.0 c.args.arrival.clock.0 c.in-At.position c.args.request c.args.arrival.stop c.run_joined.result before
    (seen c.append_reserved.new.self c.args.replica.now c.args.steps.now) (seen c.run_joined.new.log c.run_joined.new.replica c.run_joined.new.steps)
    said refl c.run_joined.ensures.decided (c.run_joined.ensures.run common h c.args.arrival.host.0 c.args.arrival.clock.0 c.args.request has at)
