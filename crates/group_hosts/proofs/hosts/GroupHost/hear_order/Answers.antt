use Rattle.std.proofs.Common.{◌≡◌, ℕ, ◌≤◌, refl, sym, subst, ◌∙◌, ltb-false}
use Rattle.active_sequencer.specs.Orders.{seen, CanOrder}
use Rattle.group_hosts.proofs.Hears.{order_heard, order_to_come}
use Rattle.group_hosts.proofs.hosts.GroupHost.hear_order.Goals as goal

pub returns-clause-turn : goal.returns-clause-turn
returns-clause-turn g c = λ group s host here brought.
    let machines = g.S.Servant.machine in
    let here' = rw (← c.self.view_is) at here in
    let can : CanOrder machines group.common (group.hosts host.0) c.args.index c.args.request (seen c.self.inside.progress.holdback c.self.inside.progress.replica c.args.steps.now) = record { sound = here'.log.sound; replica = here'.host.replica; held = here'.host.held; order = brought.1 } in
    let heard = c.order-ordered.ensures.ordered group.common (group.hosts host.0) can in
    let loaded : c.is_loaded-loaded.result ≡ (group.hosts host.0).place.loaded = c.is_loaded-loaded.ensures ∙ here'.host.replica.loaded in
    rw (c.order_told.ensures.told, loaded) (order_heard machines group s host _ here' c.args.index c.args.request c.order-ordered.result
    (seen c.self.inside.progress.holdback c.self.inside.progress.replica c.args.steps.now) (seen c.order-ordered.new.holdback c.order-ordered.new.replica c.order-ordered.new.steps)
    c.if-not-self.false brought.0 refl refl heard (λ e. let comes = order_to_come _ _ _ _ _ _ c.order-ordered.ensures.ignored e in
    record {
      loaded = sym here'.host.replica.loaded ∙ comes.0;
      to_come = subst (λ (n : ℕ). n ≤ c.args.index) here'.host.replica.position (ltb-false c.args.index c.self.inside.progress.replica.position comes.1);
    }))
