use Rattle.std.proofs.Common.{◌≡◌, true, false, List, sym, ap, subst, ◌∙◌}
use Rattle.std.specs.Prelude.{is_some}
use Rattle.script_subscribers.specs.declared.named.Named.{Named}
use Rattle.script_subscribers.specs.Pictures.{IsKept, shown}
use Rattle.script_subscribers.specs.Subscribers.{Subscribers, subscriber_named, unsubscribed}
use Rattle.script_subscribers.proofs.Keeping.{nobody_named, somebody_named, nobody_leaves, leaves, one_left, disconnects}
use Rattle.script_subscribers.proofs.subscriptions.Subscribers.unsubscribe.Goals as goal

pub returns-in_default-clause-listened : goal.returns-in_default-clause-listened
returns-in_default-clause-listened c =
    let first = sym c.sub_of.ensures ∙ c.in_default.is in
    subst (λ (s : Subscribers). false ≡ is_some (subscriber_named s c.args.name.now)) c.self.view_is
    (sym (ap is_some (nobody_named _ _ _ c.self.invariant c.args.name.now first)))

pub returns-in_default-clause-left : goal.returns-in_default-clause-left
returns-in_default-clause-left c =
    let first = sym c.sub_of.ensures ∙ c.in_default.is in
    subst (λ (s : Subscribers). s ≡ unsubscribed s c.args.name.now) c.self.view_is
    (sym (ap (λ ss. record { all = ss; faults = c.self.inside.faults }) (nobody_leaves _ _ _ c.self.invariant c.args.name.now first)))

pub invariant_of-self : goal.invariant_of-self
invariant_of-self c =
    let kept = c.self.invariant in
    let first = sym c.sub_of.ensures ∙ c.in-Some.is in
    subst (λ (zs : List Named). IsKept c.disconnect.new.self zs c.self.inside.faults) (sym c.leave.ensures)
    (leaves _ _ _ kept c.args.name.now c.in-Some.sub first c.disconnect.new.self (c.in-Ok.ensures kept.n kept.stands).1)

pub unreachable-requires : goal.unreachable-requires
unreachable-requires c =
    let kept = c.self.invariant in
    let first = sym c.sub_of.ensures ∙ c.in-Some.is in
    disconnects _ _ _ kept c.args.name.now c.in-Some.sub first c.in-Err.field-0 c.disconnect.new.self (c.in-Err.ensures kept.n kept.stands)

pub returns-clause-listened : goal.returns-clause-listened
returns-clause-listened c =
    let first = sym c.sub_of.ensures ∙ c.in-Some.is in
    subst (λ (s : Subscribers). true ≡ is_some (subscriber_named s c.args.name.now)) c.self.view_is
    (sym (somebody_named _ _ _ c.self.invariant c.args.name.now c.in-Some.sub first))

pub returns-clause-left : goal.returns-clause-left
returns-clause-left c =
    let kept = c.self.invariant in
    let first = sym c.sub_of.ensures ∙ c.in-Some.is in
    subst (λ (s : Subscribers). shown c.disconnect.new.self c.leave.new.self.all c.self.inside.faults ≡ unsubscribed s c.args.name.now) c.self.view_is
    (ap (λ (zs : List Named). shown c.disconnect.new.self zs c.self.inside.faults) c.leave.ensures
    ∙ ap (λ ss. record { all = ss; faults = c.self.inside.faults })
    (one_left _ _ _ kept c.args.name.now c.in-Some.sub first c.disconnect.new.self (c.in-Ok.ensures kept.n kept.stands).1))
