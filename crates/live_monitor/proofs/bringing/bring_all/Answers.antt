use Rattle.std.proofs.Common.{◌≡◌, sym, subst}
use Rattle.group_model.specs.declared.events.Event.{Event}
use Rattle.hist_lock.specs.Histories.{calls as turns}
use Rattle.shared_group.specs.Books.{MayCall}
use Rattle.shared_group.specs.declared.calls.Call.TheVariants as calls
use Rattle.live_monitor.proofs.Turning.{MayAllCome, goes_nowhere, one_brought}
use Rattle.live_monitor.proofs.bringing.bring_all.Goals as goal

pub loop-out-init : goal.loop-out-init
loop-out-init g c =
    let all : c.into_iter-out-iterator.result.rest.items ≡ c.args.sent = search in
    (c.requires.own, goes_nowhere c.args.pass.now, subst (MayAllCome g.S.Servant.machine c.args.group.now.lock c.args.pass.now) (sym all) c.requires.may)

pub event-requires-clause-may : goal.event-requires-clause-may
event-requires-clause-may g c =
    let all = subst (MayAllCome g.S.Servant.machine c.args.group.now.lock c.loop-out.pass) c.in-Some.ensures.steps.0 c.loop-out.invariant.2 in
    subst (λ (e : Event). MayCall g.S.Servant.machine c.args.group.now.lock.opening (turns c.loop-out.pass.seen) (calls.Act e)) (sym c.event_of.ensures) all.0

pub loop-out-preserved : goal.loop-out-preserved
loop-out-preserved g c =
    one_brought g.S.Servant.machine c.calls_stay_possible.ensures c.args.group.now.lock c.args.pass.now c.loop-out.pass c.event.new.pass c.in-Some.out c.next.new.self.rest.items
    c.event_of.result c.event.result c.event_of.ensures c.event.ensures c.loop-out.invariant.1
    (subst (MayAllCome g.S.Servant.machine c.args.group.now.lock c.loop-out.pass) c.in-Some.ensures.steps.0 c.loop-out.invariant.2)

pub loop-out-preserved-in-Some : goal.loop-out-preserved-in-Some
loop-out-preserved-in-Some g c =
    one_brought g.S.Servant.machine c.calls_stay_possible.ensures c.args.group.now.lock c.args.pass.now c.loop-out.pass c.event.new.pass c.in-Some.out c.next.new.self.rest.items
    c.event_of.result c.event.result c.event_of.ensures c.event.ensures c.loop-out.invariant.1
    (subst (MayAllCome g.S.Servant.machine c.args.group.now.lock c.loop-out.pass) c.in-Some.ensures.steps.0 c.loop-out.invariant.2)
