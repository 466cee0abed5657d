use Rattle.std.proofs.Common.{◌<◌, length, sym, subst, ◌∙◌, arith}
use Rattle.ft_replica.specs.Picture.{Picture as ReplicaPicture}
use Rattle.active_sequencer.specs.Orders.{HasStopped}
use Rattle.active_sequencer.proofs.Running.{fits_next, underway_next, ends_at_gap, ends_with_all, stops_short}
use Rattle.active_sequencer.proofs.ordering.run_held.Goals as goal

pub returns-in_default-clause-ran : goal.returns-in_default-clause-ran
returns-in_default-clause-ran g c = λ common place holdback can.
    let way = c.loop-done.invariant.way common place holdback can in
    ends_at_gap c.holdbacks_go_on.ensures.tell c.holdbacks_go_on.ensures.ordered c.orders_run.ensures.fit c.orders_run.ensures.run g.S.Servant.machine common place holdback c.args.orders.now c.args.replica.now can
    c.loop-done.replica c.loop-done._done c.position.result c.args.steps.now c.loop-done.steps way c.position.ensures c.in_default.ensures c.loop-done.invariant.calls

pub apply-requires-clause-loaded : goal.apply-requires-clause-loaded
apply-requires-clause-loaded g c =
    let r = c.requires in
    let way = c.loop-done.invariant.way r.0 r.1 r.2 r.3 in
    way.replica.loaded ∙ r.3.loaded

pub apply-requires-clause-fits : goal.apply-requires-clause-fits
apply-requires-clause-fits g c =
    let r = c.requires in
    let way = c.loop-done.invariant.way r.0 r.1 r.2 r.3 in
    (fits_next c.holdbacks_go_on.ensures.tell c.holdbacks_go_on.ensures.ordered c.orders_run.ensures.fit c.orders_run.ensures.run g.S.Servant.machine r.0 r.1 r.2 c.args.orders.now c.args.replica.now r.3
    c.loop-done.replica c.loop-done._done c.position.result way c.position.ensures c.in-Some.request.now c.in-Some.ensures).0

pub apply-requires-clause-room : goal.apply-requires-clause-room
apply-requires-clause-room g c =
    let r = c.requires in
    let way = c.loop-done.invariant.way r.0 r.1 r.2 r.3 in
    let may = fits_next c.holdbacks_go_on.ensures.tell c.holdbacks_go_on.ensures.ordered c.orders_run.ensures.fit c.orders_run.ensures.run g.S.Servant.machine r.0 r.1 r.2 c.args.orders.now c.args.replica.now r.3
    c.loop-done.replica c.loop-done._done c.position.result way c.position.ensures c.in-Some.request.now c.in-Some.ensures in
    omega (arith, may.1)

pub returns-in-Err-clause-stopped : goal.returns-in-Err-clause-stopped
returns-in-Err-clause-stopped g c = λ common place holdback can.
    let machines = g.S.Servant.machine in
    let way = c.loop-done.invariant.way common place holdback can in
    let less : c.loop-done._done < length c.args.orders.now = omega (arith, c.loop-done-test.true, c.len-done-end.ensures) in
    subst (λ (r : ReplicaPicture). HasStopped machines common place holdback r c.args.steps.now c.apply.new.steps) (sym c.in-Err.ensures.left)
    (stops_short c.holdbacks_go_on.ensures.tell c.holdbacks_go_on.ensures.ordered c.orders_run.ensures.fit c.orders_run.ensures.run machines common place holdback c.args.orders.now c.args.replica.now can
    c.loop-done.replica c.loop-done._done c.position.result c.args.steps.now c.loop-done.steps c.apply.new.steps way less c.position.ensures c.in-Some.request.now c.in-Some.ensures
    c.loop-done.invariant.calls c.apply.ensures.counted)

pub loop-done-preserved : goal.loop-done-preserved
loop-done-preserved g c = record {
  way = λ common place holdback can.
      let way = c.loop-done.invariant.way common place holdback can in
      let less : c.loop-done._done < length c.args.orders.now = omega (arith, c.loop-done-test.true, c.len-done-end.ensures) in
      underway_next c.holdbacks_go_on.ensures.tell c.holdbacks_go_on.ensures.ordered c.orders_run.ensures.fit c.orders_run.ensures.run g.S.Servant.machine common place holdback c.args.orders.now c.args.replica.now can
      c.loop-done.replica c.apply.new.self c.loop-done._done c.position.result way less c.position.ensures c.in-Some.request.now c.in-Some.ensures c.in_default-apply.ensures.ran;
  calls = omega (arith, c.apply.ensures.counted, c.loop-done.invariant.calls);
}

pub returns-clause-ran : goal.returns-clause-ran
returns-clause-ran g c = λ common place holdback can.
    let way = c.loop-done.invariant.way common place holdback can in
    ends_with_all c.holdbacks_go_on.ensures.tell c.holdbacks_go_on.ensures.ordered c.orders_run.ensures.fit c.orders_run.ensures.run g.S.Servant.machine common place holdback c.args.orders.now c.args.replica.now can
    c.loop-done.replica c.loop-done._done c.args.steps.now c.loop-done.steps way (omega (arith, c.loop-done-test.false, c.loop-done.auto._done-end, c.len-done-end.ensures)) c.loop-done.invariant.calls
