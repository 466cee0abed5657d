use Rattle.std.proofs.Common.{ap, subst, ◌∙◌, ◌≡◌}
use Rattle.std.specs.Prelude.{is_some}
use Rattle.script_subscribers.specs.Subscribers.{Subscribers, subscriber_named}
use Rattle.script_subscribers.proofs.Keeping.{listens_is}
use Rattle.script_subscribers.proofs.subscriptions.Subscribers.listens.Goals as goal

pub returns : goal.returns
returns c =
    subst (λ (s : Subscribers). c.is_some.result ≡ is_some (subscriber_named s c.args.name.now)) c.self.view_is
    (c.is_some.ensures ∙ ap is_some c.sub_of.ensures
    ∙ listens_is _ _ _ c.self.invariant c.args.name.now)
