use Rattle.client_talk.specs.Talking.{dialing}
use Rattle.client_calls.proofs.CallLaws.{attempted_there}
use Rattle.client_calls.proofs.turns.hear.Goals as goal

pub returns-in-Ok-turn-clause-heard : goal.returns-in-Ok-turn-clause-heard
returns-in-Ok-turn-clause-heard g c = λ talk is.
    let h = attempted_there g.L.Source.left g.L.Sink.holds g.L.Link.faults c.attempt-next.result.1 c.in-Ok.item (record { host = c.host.result.now; port = c.port.result }) c.args.aim.now.to
    c.text.result.now c.args.aim.now.text c.args.line c.attempt-next.result.0
    (dialing (g.D.Dialer.links c.args.dialer.now) (g.D.Dialer.targets c.args.dialer.now) (g.D.Dialer.sent c.args.dialer.now) (g.D.Dialer.count c.args.dialer.now))
    (dialing (g.D.Dialer.links c.attempt-next.new.dialer) (g.D.Dialer.targets c.attempt-next.new.dialer) (g.D.Dialer.sent c.attempt-next.new.dialer) (g.D.Dialer.count c.attempt-next.new.dialer))
    c.in-Ok.is (λ i. record { host = c.host.ensures i; port = c.port.ensures i }) c.text.ensures c.attempt-next.ensures.heard talk is in
    (c.in-Ok.item, h.0, h.1, h.2, c.in-Ok-turn.ensures)
