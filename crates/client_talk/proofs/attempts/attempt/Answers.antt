use Rattle.std.proofs.Common.{None, refl, subst}
use Rattle.client_talk.specs.declared.items.Item.{Item}
use Rattle.client_talk.specs.declared.items.Item.TheVariants as items
use Rattle.client_talk.specs.Talking.{Exchanges, IsTalk, Talk, dialing}
use Rattle.client_talk.proofs.Talks.{answered, left_off}
use Rattle.client_talk.proofs.attempts.attempt.Goals as goal

pub returns-in-Ok-Reply-clause-heard : goal.returns-in-Ok-Reply-clause-heard
returns-in-Ok-Reply-clause-heard g c = λ talk is.
    let r = c.in-Some.ensures.reached talk is in
    answered g.L.Source.left g.L.Sink.holds g.L.Link.faults (record { host = c.args.host.now; port = c.args.port }) c.args.request.now talk
    (dialing (g.D.Dialer.links c.args.dialer.now) (g.D.Dialer.targets c.args.dialer.now) (g.D.Dialer.sent c.args.dialer.now) (g.D.Dialer.count c.args.dialer.now))
    (dialing (g.D.Dialer.links c.reach.new.dialer) (g.D.Dialer.targets c.reach.new.dialer) (g.D.Dialer.sent c.reach.new.dialer) (g.D.Dialer.count c.reach.new.dialer))
    c.in-Ok-Reply.reply c.in-Some.line c.exchange.new.line r.0 r.1 r.2
    (λ t at. subst (λ (x : Item). (after : Talk) × IsTalk g.L.Source.left g.L.Sink.holds g.L.Link.faults after c.exchange.new.line × Exchanges c.args.request.now x t after)
    c.in-Ok-Reply.field-0-is (c.in-Ok-Reply.ensures.exchanged t at))

pub returns-in-Ok-Ended-clause-heard : goal.returns-in-Ok-Ended-clause-heard
returns-in-Ok-Ended-clause-heard g c = λ talk is.
    let r = c.in-Some.ensures.reached talk is in (
      None,
      tt,
      left_off g.L.Source.left g.L.Sink.holds g.L.Link.faults (record { host = c.args.host.now; port = c.args.port }) c.args.request.now talk
          (dialing (g.D.Dialer.links c.args.dialer.now) (g.D.Dialer.targets c.args.dialer.now) (g.D.Dialer.sent c.args.dialer.now) (g.D.Dialer.count c.args.dialer.now))
          (dialing (g.D.Dialer.links c.reach.new.dialer) (g.D.Dialer.targets c.reach.new.dialer) (g.D.Dialer.sent c.reach.new.dialer) (g.D.Dialer.count c.reach.new.dialer))
          items.Ended c.in-Some.line c.exchange.new.line
          (dialing (g.D.Dialer.links c.give_back.new.dialer) (g.D.Dialer.targets c.give_back.new.dialer) (g.D.Dialer.sent c.give_back.new.dialer) (g.D.Dialer.count c.give_back.new.dialer))
          r.0 r.1 r.2
          (λ t at. subst (λ (x : Item). (after : Talk) × IsTalk g.L.Source.left g.L.Sink.holds g.L.Link.faults after c.exchange.new.line × Exchanges c.args.request.now x t after)
          c.in-Ok-Ended.field-0-is (c.in-Ok-Ended.ensures.exchanged t at))
          c.give_back.ensures.back (λ t. refl) (λ t. refl),
    )

pub returns-in-Ok-Failed-clause-heard : goal.returns-in-Ok-Failed-clause-heard
returns-in-Ok-Failed-clause-heard g c = λ talk is.
    let r = c.in-Some.ensures.reached talk is in (
      None,
      tt,
      left_off g.L.Source.left g.L.Sink.holds g.L.Link.faults (record { host = c.args.host.now; port = c.args.port }) c.args.request.now talk
          (dialing (g.D.Dialer.links c.args.dialer.now) (g.D.Dialer.targets c.args.dialer.now) (g.D.Dialer.sent c.args.dialer.now) (g.D.Dialer.count c.args.dialer.now))
          (dialing (g.D.Dialer.links c.reach.new.dialer) (g.D.Dialer.targets c.reach.new.dialer) (g.D.Dialer.sent c.reach.new.dialer) (g.D.Dialer.count c.reach.new.dialer))
          items.Failed c.in-Some.line c.exchange.new.line
          (dialing (g.D.Dialer.links c.give_back-in-Ok-Failed.new.dialer) (g.D.Dialer.targets c.give_back-in-Ok-Failed.new.dialer) (g.D.Dialer.sent c.give_back-in-Ok-Failed.new.dialer) (g.D.Dialer.count c.give_back-in-Ok-Failed.new.dialer))
          r.0 r.1 r.2
          (λ t at. subst (λ (x : Item). (after : Talk) × IsTalk g.L.Source.left g.L.Sink.holds g.L.Link.faults after c.exchange.new.line × Exchanges c.args.request.now x t after)
          c.in-Ok-Failed.field-0-is (c.in-Ok-Failed.ensures.exchanged t at))
          c.give_back-in-Ok-Failed.ensures.back (λ t. refl) (λ t. refl),
    )
