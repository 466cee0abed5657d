use Rattle.std.proofs.Common.{subst, ◌∙◌, ◌≡◌}
use Rattle.std.specs.List.{list_any}
use Rattle.std.specs.Str.{bytes_eq}
use Rattle.script_subscribers.specs.Subscribers.{Subscriber, Subscribers}
use Rattle.script_subscribers.proofs.Keeping.{any_named}
use Rattle.script_subscribers.proofs.subscriptions.Subscribers.is_named.Goals as goal

pub returns : goal.returns
returns c =
    subst (λ (s : Subscribers). c.has.result ≡ list_any (λ (b : Subscriber). bytes_eq b.name c.args.name.now) s.all) c.self.view_is
    (c.has.ensures
    ∙ any_named c.self.inside.notifier c.args.name.now c.self.inside.named.all)
