use Rattle.group_hosts.proofs.Hears.{state_given, warm_is_passive}
use Rattle.group_hosts.proofs.hosts.GroupHost.hear_state.Goals as goal

pub returns-clause-turn : goal.returns-clause-turn
returns-clause-turn g c = λ group s host steps here brought.
    let machines = g.S.Servant.machine in
    let here' = rw (← c.self.view_is) at here in
    let given = c.give_state-given.ensures.given group.common (group.hosts host.0) here'.log.sound here'.host.replica (record { ran = brought.1; is = brought.2 }) in
    rw c.given_told.ensures.told (state_given machines group s host _ here' c.holdbacks_go_on.ensures.empty c.args.position c.args.state.now c.give_state-given.result c.give_state-given.new.replica steps
    c.if-not-self.false (warm_is_passive machines group s host _ here' brought.0) given c.give_state-given.ensures.left)
