use Rattle.std.proofs.Common.{◌≡◌, ◌+◌, arith, sym, ap, subst, ◌∙◌}
use Rattle.std.specs.Prelude.{Err}
use Rattle.fault_notifier.specs.Keeping.{Picture, IsPushed}
use Rattle.fault_notifier.specs.declared.faults.NotifyFault.{NotifyFault}
use Rattle.script_subscribers.specs.Pictures.{IsKept, shown}
use Rattle.script_subscribers.specs.Subscribers.{Subscribers, told}
use Rattle.script_subscribers.proofs.Keeping.{past_most, pushes, told_is, unpushed}
use Rattle.script_subscribers.proofs.subscriptions.Subscribers.push.Goals as goal

pub invariant_of-self : goal.invariant_of-self
invariant_of-self c = past_most _ _ _ c.self.invariant c.if-self-ge-EVENT_LIMIT.true

pub invariant_of-self-in-Ok : goal.invariant_of-self-in-Ok
invariant_of-self-in-Ok c =
    let kept = c.self.invariant in
    pushes _ _ _ kept c.args.event c.push.new.self (c.in-Ok.ensures kept.n kept.stands).1 c.if-self-ge-EVENT_LIMIT.false

pub returns-in-Ok-clause-told : goal.returns-in-Ok-clause-told
returns-in-Ok-clause-told c =
    let kept = c.self.invariant in
    subst (λ (s : Subscribers). shown c.push.new.self c.self.inside.named.all (c.self.inside.faults + 1) ≡ told s c.args.event) c.self.view_is
    (told_is _ _ _ kept c.args.event c.push.new.self (c.in-Ok.ensures kept.n kept.stands).1 c.if-self-ge-EVENT_LIMIT.false)

pub unreachable-requires : goal.unreachable-requires
unreachable-requires c =
    let kept = c.self.invariant in
    let is = subst (λ (why : NotifyFault). IsPushed kept.n c.args.event (Err why) c.self.inside.notifier c.push.new.self)
    c.in-Err-Full.field-0-is (c.in-Err-Full.ensures kept.n kept.stands) in
    omega (arith, is.1, kept.few, c.if-self-ge-EVENT_LIMIT.false)

pub invariant_of-self-in-Err : goal.invariant_of-self-in-Err
invariant_of-self-in-Err c =
    let kept = c.self.invariant in
    subst (λ (q : Picture). IsKept q c.self.inside.named.all c.self.inside.faults)
    (sym (unpushed kept.n c.args.event c.in-Err.field-0 c.self.inside.notifier c.push.new.self (c.in-Err.ensures kept.n kept.stands))) kept

pub returns-in-Err : goal.returns-in-Err
returns-in-Err c =
    let kept = c.self.invariant in
    record {
      told = tt;
      kept = ap (λ (q : Picture). shown q c.self.inside.named.all c.self.inside.faults)
          (unpushed kept.n c.args.event c.in-Err.field-0 c.self.inside.notifier c.push.new.self (c.in-Err.ensures kept.n kept.stands)) ∙ c.self.view_is;
    }
