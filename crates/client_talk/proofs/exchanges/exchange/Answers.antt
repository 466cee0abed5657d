use Rattle.std.proofs.Common.{refl}
use Rattle.client_talk.proofs.Talks.{each_heard, write_fails}
use Rattle.client_talk.proofs.exchanges.exchange.Goals as goal

pub returns-in-Failed-clause-exchanged : goal.returns-in-Failed-clause-exchanged
returns-in-Failed-clause-exchanged g c = λ talk is.
    let sent = c.in-Failed.ensures.sent in
    write_fails g.L.Source.left g.L.Sink.holds g.L.Link.faults c.args.request.now c.args.line.now
    (record { link = c.send_all.new.link; session = c.args.line.now.session; to = c.args.line.now.to })
    sent.0.0 sent.0.1 sent.0.2 sent.1 c.in-Failed.ensures.left refl refl talk is

pub returns-clause-exchanged : goal.returns-clause-exchanged
returns-clause-exchanged g c =
    each_heard g.L.Source.left g.L.Sink.holds g.L.Link.faults c.args.request.now c.args.line.now
    (record { link = c.listen.new.link; session = c.listen.new.session; to = c.args.line.now.to })
    c.send_all.new.link c.in-All.ensures.sent.0 c.in-All.ensures.sent.1 c.in-All.ensures.left c.listen.ensures.holds refl
    c.listen.result c.listen.ensures.heard c.listen.ensures.faults
