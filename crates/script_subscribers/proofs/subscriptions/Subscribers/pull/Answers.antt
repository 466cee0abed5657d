use Rattle.std.proofs.Common.{◌≡◌, None, refl, sym, ap, subst, ◌∙◌}
use Rattle.std.specs.Prelude.{Result}
use Rattle.ft_base.specs.declared.memory.NoMemory.{NoMemory}
use Rattle.script_subscribers.specs.declared.answers.Pulled.{Pulled}
use Rattle.script_subscribers.specs.Calls.{IsPulled, pulled_of}
use Rattle.script_subscribers.specs.Pictures.{shown}
use Rattle.script_subscribers.specs.Subscribers.{Subscribers, subscriber_named}
use Rattle.script_subscribers.proofs.Keeping.{pulls_by, nobody_named}
use Rattle.script_subscribers.proofs.subscriptions.Subscribers.pull.Goals as goal

pub returns-in_default : goal.returns-in_default
returns-in_default c =
    let first = sym c.sub_of.ensures ∙ c.in_default.is in
    (sym (ap pulled_of (subst (λ (s : Subscribers). subscriber_named s c.args.name.now ≡ None) c.self.view_is (nobody_named _ _ _ c.self.invariant c.args.name.now first))), refl)

pub invariant_of-self : goal.invariant_of-self
invariant_of-self c =
    let kept = c.self.invariant in
    let first = sym c.sub_of.ensures ∙ c.in-Some.is in
    (pulls_by _ _ _ kept c.args.name.now c.in-Some.sub first c.pull.result c.pull.new.self (c.pull.ensures kept.n kept.stands)).0

pub returns : goal.returns
returns c =
    let kept = c.self.invariant in
    let first = sym c.sub_of.ensures ∙ c.in-Some.is in
    let view = shown c.pull.new.self c.self.inside.named.all c.self.inside.faults in
    subst (λ (s : Subscribers). IsPulled s c.args.name.now c.answer_of.result view) c.self.view_is
    (subst (λ (r : Result Pulled NoMemory). IsPulled (shown c.self.inside.notifier c.self.inside.named.all c.self.inside.faults) c.args.name.now r view) (sym c.answer_of.ensures)
    (pulls_by _ _ _ kept c.args.name.now c.in-Some.sub first c.pull.result c.pull.new.self (c.pull.ensures kept.n kept.stands)).1)
