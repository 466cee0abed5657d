use Rattle.std.proofs.Common.{sym, ◌∙◌}
use Rattle.group_core.proofs.WhoTakes.{taker_down, taker_up, up_told}
use Rattle.group_core.proofs.cores.GroupCore.taker.Goals as goal

pub returns-then-down : goal.returns-then-down
returns-then-down g c = λ group stands.
    let machines = g.S.Servant.machine in
    let takes = sym (c.taking_host.ensures group stands) ∙ c.in-Some.is in
    let inside = c.takers_may_take.ensures.inside (machines group.common.kind) group c.in-Some.host stands.sound takes in
    taker_down machines c.args.self.now group stands c.in-Some.host takes
    (up_told machines c.args.self.now group stands c.in-Some.host.0 c.down.result _ inside c.down.ensures c.if-down.true)

pub returns-else-down : goal.returns-else-down
returns-else-down g c = λ group stands.
    let machines = g.S.Servant.machine in
    let takes = sym (c.taking_host.ensures group stands) ∙ c.in-Some.is in
    let inside = c.takers_may_take.ensures.inside (machines group.common.kind) group c.in-Some.host stands.sound takes in
    taker_up machines c.args.self.now group stands c.in-Some.host takes
    (up_told machines c.args.self.now group stands c.in-Some.host.0 c.down.result _ inside c.down.ensures c.if-down.false)
