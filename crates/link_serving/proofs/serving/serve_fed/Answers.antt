use Rattle.std.proofs.Common.{refl, ◌∙◌}
use Rattle.link_serving.specs.Wires.{wire}
use Rattle.link_serving.proofs.Amid.{ends_told, goes_on, lacks, stops, waits}
use Rattle.link_serving.proofs.serving.serve_fed.Goals as goal

pub messages-init : goal.messages-init
messages-init g c = record { fits = c.requires.fits; on = λ fed p w amid. amid; closed = refl }

pub messages-preserved : goal.messages-preserved
messages-preserved g c = record {
  fits = c.take.ensures.fits;
  on = λ fed p w amid.
      goes_on (g.G.GroupPort.exchanges c.args.port.now) c.args.host.0 fed p w c.messages.pass (wire (g.K.Source.left c.messages.link) (g.K.Sink.holds c.messages.link) (g.K.Link.faults c.messages.link))
      c.messages.session c.next.new.self (c.messages.invariant.on fed p w amid) c.in-Ok-Serve.field-0 c.in-Ok-Serve.received c.take.new.pass
      (wire (g.K.Source.left c.take.new.link) (g.K.Sink.holds c.take.new.link) (g.K.Link.faults c.take.new.link)) c.in-Ok-Serve.field-0-is (c.in-Ok-Serve.ensures.next fed) c.in-None.ensures.took;
  closed = c.take.ensures.closed ∙ c.messages.invariant.closed;
}

pub returns-in-Some-clause-served : goal.returns-in-Some-clause-served
returns-in-Some-clause-served g c = λ fed p w amid.
    stops (g.G.GroupPort.exchanges c.args.port.now) c.args.host.0 fed p w c.messages.pass (wire (g.K.Source.left c.messages.link) (g.K.Sink.holds c.messages.link) (g.K.Link.faults c.messages.link))
    c.messages.session c.next.new.self (c.messages.invariant.on fed p w amid) c.in-Ok-Serve.field-0 c.in-Ok-Serve.received c.take.new.pass
    (wire (g.K.Source.left c.take.new.link) (g.K.Sink.holds c.take.new.link) (g.K.Link.faults c.take.new.link)) c.in-Some.ended c.in-Ok-Serve.field-0-is (c.in-Ok-Serve.ensures.next fed) c.in-Some.ensures.took

pub returns-in-Ok-Wait-clause-served : goal.returns-in-Ok-Wait-clause-served
returns-in-Ok-Wait-clause-served g c = λ fed p w amid.
    waits (g.G.GroupPort.exchanges c.args.port.now) c.args.host.0 fed p w c.messages.pass (wire (g.K.Source.left c.messages.link) (g.K.Sink.holds c.messages.link) (g.K.Link.faults c.messages.link))
    c.messages.session c.next.new.self (c.messages.invariant.on fed p w amid) c.in-Ok-Wait.field-0 c.in-Ok-Wait.field-0-is (c.in-Ok-Wait.ensures.next fed)

pub returns-in-Ok-End-clause-served : goal.returns-in-Ok-End-clause-served
returns-in-Ok-End-clause-served g c = λ fed p w amid.
    ends_told (g.G.GroupPort.exchanges c.args.port.now) c.args.host.0 fed p w c.messages.pass (wire (g.K.Source.left c.messages.link) (g.K.Sink.holds c.messages.link) (g.K.Link.faults c.messages.link))
    c.messages.session c.in-Ok-End.end (wire (g.K.Source.left c.end_link.new.link) (g.K.Sink.holds c.end_link.new.link) (g.K.Link.faults c.end_link.new.link)) c.end_link.result
    (c.messages.invariant.on fed p w amid) c.next.new.self c.in-Ok-End.field-0 c.in-Ok-End.field-0-is (c.in-Ok-End.ensures.next fed) c.end_link.ensures.ended

pub returns-in-Err-clause-served : goal.returns-in-Err-clause-served
returns-in-Err-clause-served g c = λ fed p w amid.
    lacks (g.G.GroupPort.exchanges c.args.port.now) c.args.host.0 fed p w c.messages.pass (wire (g.K.Source.left c.messages.link) (g.K.Sink.holds c.messages.link) (g.K.Link.faults c.messages.link))
    c.messages.session (c.messages.invariant.on fed p w amid)
