use Rattle.std.proofs.Common.{rules, ◌≡◌, ◌≤◌, true}
use Rattle.group_model.specs.Plain.{with_number}
use Rattle.active_sequencer.specs.Orders.{seen}
use Rattle.active_sequencer.proofs.Orders.{may_run, ran_on, stayed, stopped}
use Rattle.active_sequencer.proofs.ordering.order.Goals as goal

pub run_held-ran-requires : goal.run_held-ran-requires
run_held-ran-requires g c =
    let r = c.requires in
    let before = seen c.args.holdback.now c.args.replica.now c.args.steps.now in
    let loaded : c.args.replica.now.loaded ≡ true = search rules in
    let low : c.args.replica.now.position ≤ c.args.index = search rules in (
      r.0,
      r.1.place,
      with_number c.args.index r.1.holdback,
      may_run c.holdbacks_go_on.ensures.held g.S.Servant.machine r.0 r.1 c.args.index c.args.request before c.hold.new.self r.2 loaded low c.in_default.ensures.held,
    )

pub returns-in-Err-ran-clause-ordered : goal.returns-in-Err-ran-clause-ordered
returns-in-Err-ran-clause-ordered g c = λ common h can.
    let machines = g.S.Servant.machine in
    let before = seen c.args.holdback.now c.args.replica.now c.args.steps.now in
    let orders = c.hold.new.self in
    let position = c.position-position.result in
    let loaded : c.args.replica.now.loaded ≡ true = search rules in
    let low : c.args.replica.now.position ≤ c.args.index = search rules in
    let may = may_run c.holdbacks_go_on.ensures.held machines common h c.args.index c.args.request before orders can loaded low c.in_default.ensures.held in
    stopped c.holdbacks_go_on.ensures.dropped machines common h c.args.index c.args.request before orders c.drop_below.new.self c.run_held-ran.new.replica c.run_held-ran.new.steps
    position can loaded low may c.position-position.ensures c.drop_below.ensures
    (c.in-Err-ran.ensures.stopped common h.place _ may)

pub returns-then-first-position-clause-ordered : goal.returns-then-first-position-clause-ordered
returns-then-first-position-clause-ordered g c = λ common h can.
    let machines = g.S.Servant.machine in
    let before = seen c.args.holdback.now c.args.replica.now c.args.steps.now in
    let orders = c.hold.new.self in
    let position = c.position-position.result in
    let loaded : c.args.replica.now.loaded ≡ true = search rules in
    let low : c.args.replica.now.position ≤ c.args.index = search rules in
    let may = may_run c.holdbacks_go_on.ensures.held machines common h c.args.index c.args.request before orders can loaded low c.in_default.ensures.held in
    ran_on c.holdbacks_go_on.ensures.dropped machines common h c.args.index c.args.request before orders c.drop_below.new.self c.run_held-ran.new.replica c.run_held-ran.new.steps
    position can loaded low may c.position-position.ensures c.drop_below.ensures
    c.position-first.result c.position-first.ensures c.if-first-position.true (c.in_default-ran.ensures.ran common h.place _ may)

pub returns-else-first-position-clause-ordered : goal.returns-else-first-position-clause-ordered
returns-else-first-position-clause-ordered g c = λ common h can.
    let machines = g.S.Servant.machine in
    let before = seen c.args.holdback.now c.args.replica.now c.args.steps.now in
    let orders = c.hold.new.self in
    let position = c.position-position.result in
    let loaded : c.args.replica.now.loaded ≡ true = search rules in
    let low : c.args.replica.now.position ≤ c.args.index = search rules in
    let may = may_run c.holdbacks_go_on.ensures.held machines common h c.args.index c.args.request before orders can loaded low c.in_default.ensures.held in
    stayed c.holdbacks_go_on.ensures.dropped machines common h c.args.index c.args.request before orders c.drop_below.new.self c.run_held-ran.new.replica c.run_held-ran.new.steps
    position can loaded low may c.position-position.ensures c.drop_below.ensures
    c.position-first.result c.position-first.ensures c.if-first-position.false (c.in_default-ran.ensures.ran common h.place _ may)
