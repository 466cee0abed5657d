use Rattle.std.proofs.Common.{List, sym, ap, subst, ◌∙◌}
use Rattle.std.specs.Prelude.{Ok, Err}
use Rattle.fault_notifier.specs.Keeping.{Picture, IsConnected}
use Rattle.fault_notifier.specs.declared.faults.NotifyFault.{NotifyFault}
use Rattle.script_subscribers.specs.declared.answers.Subscribed.TheVariants as answers
use Rattle.script_subscribers.specs.declared.named.Named.{Named}
use Rattle.script_subscribers.specs.Calls.{IsJoined}
use Rattle.script_subscribers.specs.Filing.{Filed}
use Rattle.script_subscribers.specs.Pictures.{IsKept, shown}
use Rattle.script_subscribers.specs.Subscribers.{Subscribers, Good}
use Rattle.script_subscribers.proofs.Keeping.{joins, one_joins, done, refused, refusal_is, unconnected}
use Rattle.script_subscribers.proofs.Placing.{added}
use Rattle.script_subscribers.proofs.subscriptions.Subscribers.join.Goals as goal

pub add_reserved-requires : goal.add_reserved-requires
add_reserved-requires c = (c.args.name, ap (λ (f : Filed). f.next) c.in_ok-reserve.ensures.ready)

pub invariant_of-self-in-Ok : goal.invariant_of-self-in-Ok
invariant_of-self-in-Ok c =
    let kept = c.self.invariant in
    let is = c.in-Ok.ensures kept.n kept.stands in
    let pushed = added c.self.inside.named c.reserve.new.self c.add_reserved.new.self c.args.name c.in-Ok.sub c.in_ok-reserve.ensures.ready c.add_reserved.ensures in
    subst (λ (zs : List Named). IsKept c.connect.new.self zs c.self.inside.faults) (sym pushed)
    (joins _ _ _ kept c.args.name c.args.filter c.in-Ok.sub is.1 c.connect.new.self is.2)

pub returns-in-Ok : goal.returns-in-Ok
returns-in-Ok c =
    let kept = c.self.invariant in
    let is = c.in-Ok.ensures kept.n kept.stands in
    let pushed = added c.self.inside.named c.reserve.new.self c.add_reserved.new.self c.args.name c.in-Ok.sub c.in_ok-reserve.ensures.ready c.add_reserved.ensures in
    let view = shown c.connect.new.self c.add_reserved.new.self.all c.self.inside.faults in
    subst (λ (s : Subscribers). IsJoined s c.args.name (Good c.args.filter) (Ok answers.Done) view) c.self.view_is
    (done (shown c.self.inside.notifier c.self.inside.named.all c.self.inside.faults) c.args.name c.args.filter view
    (refusal_is _ _ _ kept ∙ is.0)
    (ap (λ (zs : List Named). shown c.connect.new.self zs c.self.inside.faults) pushed
    ∙ ap (λ ss. record { all = ss; faults = c.self.inside.faults }) (one_joins _ _ _ kept c.args.name c.args.filter c.in-Ok.sub is.1 c.connect.new.self is.2)))

pub invariant_of-self-in-Err-Full : goal.invariant_of-self-in-Err-Full
invariant_of-self-in-Err-Full c =
    let kept = c.self.invariant in
    let same = unconnected kept.n c.args.filter c.in-Err-Full.field-0 c.self.inside.notifier c.connect.new.self (c.in-Err-Full.ensures kept.n kept.stands) in
    subst (λ (q : Picture). IsKept q c.reserve.new.self.all c.self.inside.faults) (sym same)
    (subst (λ (f : Filed). IsKept c.self.inside.notifier f.all c.self.inside.faults) (sym c.in_ok-reserve.ensures.ready) kept)

pub returns-in-Err-Full : goal.returns-in-Err-Full
returns-in-Err-Full c =
    let kept = c.self.invariant in
    let is = subst (λ (why : NotifyFault). IsConnected kept.n c.args.filter (Err why) c.self.inside.notifier c.connect.new.self)
    c.in-Err-Full.field-0-is (c.in-Err-Full.ensures kept.n kept.stands) in
    let view = shown c.connect.new.self c.reserve.new.self.all c.self.inside.faults in
    subst (λ (s : Subscribers). IsJoined s c.args.name (Good c.args.filter) (Ok (answers.Full c.in-Err-Full.limit)) view) c.self.view_is
    (refused (shown c.self.inside.notifier c.self.inside.named.all c.self.inside.faults) c.args.name c.args.filter view c.in-Err-Full.limit
    (refusal_is _ _ _ kept ∙ is.0) (λ i. shown (is.1 i) (c.in_ok-reserve.ensures.ready i).all c.self.inside.faults))

pub invariant_of-self-in-Err : goal.invariant_of-self-in-Err
invariant_of-self-in-Err c =
    let kept = c.self.invariant in
    let same = unconnected kept.n c.args.filter c.in-Err.field-0 c.self.inside.notifier c.connect.new.self (c.in-Err.ensures kept.n kept.stands) in
    subst (λ (q : Picture). IsKept q c.reserve.new.self.all c.self.inside.faults) (sym same)
    (subst (λ (f : Filed). IsKept c.self.inside.notifier f.all c.self.inside.faults) (sym c.in_ok-reserve.ensures.ready) kept)

pub returns-in-Err : goal.returns-in-Err
returns-in-Err c =
    let kept = c.self.invariant in
    let same = unconnected kept.n c.args.filter c.in-Err.field-0 c.self.inside.notifier c.connect.new.self (c.in-Err.ensures kept.n kept.stands) in
    (λ i. shown (same i) (c.in_ok-reserve.ensures.ready i).all c.self.inside.faults) ∙ c.self.view_is
