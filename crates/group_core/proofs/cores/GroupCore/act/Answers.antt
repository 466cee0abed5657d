use Rattle.std.proofs.Common.{◌≡◌, ◌<◌, length, arith}
use Rattle.group_model.specs.Events.{host_of}
use Rattle.group_core.proofs.Acts.{acted, slice_get-read}
use Rattle.group_core.proofs.cores.GroupCore.act.Goals as goal

pub returns-clause-acted : goal.returns-clause-acted
returns-clause-acted g c = λ group stands agrees.
    let machines = g.S.Servant.machine in
    let here = rw (← c.self.view_is) at stands in
    let i : c.host_of-at.result.0 ≡ host_of c.args.event = c.host_of-at.ensures in
    let within : c.host_of-at.result.0 < length c.self.inside.hosts.items = omega (arith, here.count, agrees.host) in
    let at = rw i at (slice_get-read c.self.inside.hosts.items c.host_of-at.result.0 c.index_mut-host.result.now within c.index_mut-host.ensures.value) in
    let turn = c.act_at-answer.ensures.turn group (record { style = here.style; opening = here.opening; log = here.log; host = here.hosts (host_of c.args.event) _ at; sound = here.sound.hosts (host_of c.args.event) }) agrees in
    rw i (acted c.replicas_go_on.ensures.stays c.holdbacks_go_on.ensures.stays machines _ group here c.groups_stay_sound.ensures c.groups_grow.ensures.grow c.lean_goes_on.ensures.grow g.met.S.Servant.stays c.args.event agrees c.act_at-answer.result _ _ _ _ turn)

pub act_at-answer-requires : goal.act_at-answer-requires
act_at-answer-requires g c =
    let r = c.requires in
    let here = rw (← c.self.view_is) at r.1 in
    let i : c.host_of-at.result.0 ≡ host_of c.args.event = c.host_of-at.ensures in
    let within : c.host_of-at.result.0 < length c.self.inside.hosts.items = omega (arith, here.count, r.2.host) in
    let at = rw i at (slice_get-read c.self.inside.hosts.items c.host_of-at.result.0 c.index_mut-host.result.now within c.index_mut-host.ensures.value) in
    (r.0, record { style = here.style; opening = here.opening; log = here.log; host = here.hosts (host_of c.args.event) _ at; sound = here.sound.hosts (host_of c.args.event) }, r.2)
