use Rattle.std.proofs.Common.{refl, sym, ap, ◌∙◌, rules}
use Rattle.std.specs.Prelude.{is_some}
use Rattle.client_retry.specs.Counters.{Picture}
use Rattle.client_talk.specs.Talking.{dialing}
use Rattle.client_calls.proofs.CallLaws.{finishes, goes_round, hosts_held, no_reference, rested, sets_out}
use Rattle.client_calls.proofs.calling.call.Goals as goal

pub loop-init : goal.loop-init
loop-init g c = record {
  on = λ s same rests.
      sets_out g.L.Source.left g.L.Sink.holds g.L.Link.faults c.args.request.now s _ c.args.core.now c.start-act.new.self c.args.line (dialing (g.D.Dialer.links c.args.dialer.now) (g.D.Dialer.targets c.args.dialer.now) (g.D.Dialer.sent c.args.dialer.now) (g.D.Dialer.count c.args.dialer.now)) c.start-act.result c.args.reference (search rules) rests same c.requires.hosts c.start-act.ensures.act c.start-act.ensures.stands;
  lent = c.requires.lent;
  out = λ others o. o;
}

pub next_step-requires : goal.next_step-requires
next_step-requires g c = let s = c.requires.rests in let going = c.loop.invariant.on s.0 s.1 s.2 in going.can

pub take_reference-requires : goal.take_reference-requires
take_reference-requires g c =
    let s = c.requires.rests in let going = c.loop.invariant.on s.0 s.1 s.2 in
    ap is_some (rested g.L.Source.left g.L.Sink.holds g.L.Link.faults c.args.request.now s.0 c.loop.heard.items c.loop.core c.loop.act c.loop.last c.loop.line (dialing (g.D.Dialer.links c.loop.dialer) (g.D.Dialer.targets c.loop.dialer) (g.D.Dialer.sent c.loop.dialer) (g.D.Dialer.count c.loop.dialer)) going c.in-Ok-Ends.field-0 c.in-Ok-Ends.end c.in-Ok-Ends.field-0-is c.in-Ok-Ends.ensures).idle

pub unreachable-requires : goal.unreachable-requires
unreachable-requires g c =
    let s = c.requires.rests in let going = c.loop.invariant.on s.0 s.1 s.2 in
    no_reference c.loop.core (rested g.L.Source.left g.L.Sink.holds g.L.Link.faults c.args.request.now s.0 c.loop.heard.items c.loop.core c.loop.act c.loop.last c.loop.line (dialing (g.D.Dialer.links c.loop.dialer) (g.D.Dialer.targets c.loop.dialer) (g.D.Dialer.sent c.loop.dialer) (g.D.Dialer.count c.loop.dialer)) going c.in-Ok-Ends.field-0 c.in-Ok-Ends.end c.in-Ok-Ends.field-0-is c.in-Ok-Ends.ensures)
    (sym c.in-None-take_reference.is ∙ c.take_reference.ensures.reference)

pub returns-in-Some-take_reference-clause-called : goal.returns-in-Some-take_reference-clause-called
returns-in-Some-take_reference-clause-called g c = λ s same rests.
    finishes g.L.Source.left g.L.Sink.holds g.L.Link.faults c.args.request.now s c.loop.heard.items c.loop.core c.loop.act c.loop.last c.loop.line (dialing (g.D.Dialer.links c.loop.dialer) (g.D.Dialer.targets c.loop.dialer) (g.D.Dialer.sent c.loop.dialer) (g.D.Dialer.count c.loop.dialer)) (c.loop.invariant.on s same rests) c.in-Ok-Ends.field-0
    (record { heard = c.loop.heard; end = c.in-Ok-Ends.end }) c.in-Some-take_reference.reference c.take_reference.new.self refl c.in-Ok-Ends.field-0-is c.in-Ok-Ends.ensures
    (sym c.in-Some-take_reference.is ∙ c.take_reference.ensures.reference) c.take_reference.ensures.stands

pub returns-in-Some-take_reference-clause-hosts : goal.returns-in-Some-take_reference-clause-hosts
returns-in-Some-take_reference-clause-hosts g c =
    let s = c.requires.rests in let going = c.loop.invariant.on s.0 s.1 s.2 in
    hosts_held c.loop.core c.in-Some-take_reference.reference (rested g.L.Source.left g.L.Sink.holds g.L.Link.faults c.args.request.now s.0 c.loop.heard.items c.loop.core c.loop.act c.loop.last c.loop.line (dialing (g.D.Dialer.links c.loop.dialer) (g.D.Dialer.targets c.loop.dialer) (g.D.Dialer.sent c.loop.dialer) (g.D.Dialer.count c.loop.dialer)) going c.in-Ok-Ends.field-0 c.in-Ok-Ends.end c.in-Ok-Ends.field-0-is c.in-Ok-Ends.ensures)
    (sym c.in-Some-take_reference.is ∙ c.take_reference.ensures.reference)

pub returns-in-Some-take_reference-clause-idle : goal.returns-in-Some-take_reference-clause-idle
returns-in-Some-take_reference-clause-idle g c =
    let s = c.requires.rests in let going = c.loop.invariant.on s.0 s.1 s.2 in
    ap (λ (p : Picture). p.progress) c.take_reference.ensures.core ∙ (rested g.L.Source.left g.L.Sink.holds g.L.Link.faults c.args.request.now s.0 c.loop.heard.items c.loop.core c.loop.act c.loop.last c.loop.line (dialing (g.D.Dialer.links c.loop.dialer) (g.D.Dialer.targets c.loop.dialer) (g.D.Dialer.sent c.loop.dialer) (g.D.Dialer.count c.loop.dialer)) going c.in-Ok-Ends.field-0 c.in-Ok-Ends.end c.in-Ok-Ends.field-0-is c.in-Ok-Ends.ensures).idle

pub loop-preserved : goal.loop-preserved
loop-preserved g c = record {
  on = λ s same rests.
      goes_round g.L.Source.left g.L.Sink.holds g.L.Link.faults c.args.request.now s c.loop.heard.items c.loop.core c.loop.act c.loop.last c.loop.line (dialing (g.D.Dialer.links c.loop.dialer) (g.D.Dialer.targets c.loop.dialer) (g.D.Dialer.sent c.loop.dialer) (g.D.Dialer.count c.loop.dialer)) (c.loop.invariant.on s same rests) c.in-Ok-Sends.field-0 c.in-Ok-Sends.aim c.push.new.self.items c.hear-now.new.core c.hear-now.result.0
      (dialing (g.D.Dialer.links c.hear-now.new.dialer) (g.D.Dialer.targets c.hear-now.new.dialer) (g.D.Dialer.sent c.hear-now.new.dialer) (g.D.Dialer.count c.hear-now.new.dialer)) c.in-Ok.told c.in-Ok.then c.in-Ok-Sends.field-0-is c.in-Ok-Sends.ensures (search rules) c.hear-now.result.1 c.in-Ok.is c.hear-now.ensures.heard;
  lent = c.hear-now.ensures.lent;
  out = λ others o. c.hear-now.ensures.out others (c.loop.invariant.out others o);
}

pub returns-then-is_err-clause-out : goal.returns-then-is_err-clause-out
returns-then-is_err-clause-out g c = λ others o. c.hang_up.ensures.out others (c.hear-now.ensures.out others (c.loop.invariant.out others o))

pub returns-in-Err-turn-clause-out : goal.returns-in-Err-turn-clause-out
returns-in-Err-turn-clause-out g c = λ others o. c.hear-now.ensures.out others (c.loop.invariant.out others o)

pub returns-in-Err-clause-out : goal.returns-in-Err-clause-out
returns-in-Err-clause-out g c = λ others o. c.hang_up-in-Err.ensures.out others (c.loop.invariant.out others o)
