use Rattle.std.proofs.Common.{Option, subst, arith}
use Rattle.client_talk.specs.declared.lines.Line.{Line}
use Rattle.client_talk.specs.Talking.{AreTalks, dialing}
use Rattle.client_talk.proofs.Talks.{from_none, redials}
use Rattle.client_talk.proofs.lines.reach.Goals as goal

pub returns-in-None-clause-reached : goal.returns-in-None-clause-reached
returns-in-None-clause-reached g c = λ talk is.
    from_none g.L.Source.left g.L.Sink.holds g.L.Link.faults (record { host = c.args.host.now; port = c.args.port }) talk
    (dialing (g.D.Dialer.links c.args.dialer.now) (g.D.Dialer.targets c.args.dialer.now) (g.D.Dialer.sent c.args.dialer.now) (g.D.Dialer.count c.args.dialer.now))
    (dialing (g.D.Dialer.links c.dial.new.dialer) (g.D.Dialer.targets c.dial.new.dialer) (g.D.Dialer.sent c.dial.new.dialer) (g.D.Dialer.count c.dial.new.dialer))
    c.dial.result (subst (λ (o : Option (Line g.row.L.Denot)). AreTalks g.L.Source.left g.L.Sink.holds g.L.Link.faults talk o) c.in-None.is is) c.dial.ensures.dialled

pub returns-else-leads_to-clause-reached : goal.returns-else-leads_to-clause-reached
returns-else-leads_to-clause-reached g c = λ talk is.
    redials g.L.Source.left g.L.Sink.holds g.L.Link.faults (record { host = c.args.host.now; port = c.args.port }) talk c.in-Some.line
    (dialing (g.D.Dialer.links c.args.dialer.now) (g.D.Dialer.targets c.args.dialer.now) (g.D.Dialer.sent c.args.dialer.now) (g.D.Dialer.count c.args.dialer.now))
    (dialing (g.D.Dialer.links c.give_back.new.dialer) (g.D.Dialer.targets c.give_back.new.dialer) (g.D.Dialer.sent c.give_back.new.dialer) (g.D.Dialer.count c.give_back.new.dialer))
    (dialing (g.D.Dialer.links c.dial-in-Some.new.dialer) (g.D.Dialer.targets c.dial-in-Some.new.dialer) (g.D.Dialer.sent c.dial-in-Some.new.dialer) (g.D.Dialer.count c.dial-in-Some.new.dialer))
    c.dial-in-Some.result (subst (λ (o : Option (Line g.row.L.Denot)). AreTalks g.L.Source.left g.L.Sink.holds g.L.Link.faults talk o) c.in-Some.is is)
    (λ same. grind (arith, c.if-leads_to.false, c.leads_to.ensures.1 same)) c.give_back.ensures.back c.dial-in-Some.ensures.dialled
