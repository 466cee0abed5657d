use Rattle.std.proofs.Common.{List, ℕ, None, refl, subst}
use Rattle.link_session.specs.declared.ports.Stepped.{Stepped}
use Rattle.link_session.specs.Calls.{calling_of}
use Rattle.link_session.specs.Serving.{IsStepped}
use Rattle.link_serving.specs.Wires.{GainedFront, wire}
use Rattle.link_serving.proofs.Amid.{none_gained}
use Rattle.link_serving.proofs.serving.take.Goals as goal

pub returns-in-Ok-Write-clause-took : goal.returns-in-Ok-Write-clause-took
returns-in-Ok-Write-clause-took g c = (
  c.in-Ok-Write.bytes,
  subst (λ (x : Stepped). IsStepped (g.G.GroupPort.exchanges c.args.port.now) c.args.host.0 c.args.received.1 (calling_of c.args.received.0) x c.args.pass.now c.step.new.pass)
      c.in-Ok-Write.field-0-is c.in-Ok-Write.ensures.stepped,
  subst
      (λ (text : List ℕ). GainedFront text (wire (g.K.Source.left c.args.link.now) (g.K.Sink.holds c.args.link.now) (g.K.Link.faults c.args.link.now))
      (wire (g.K.Source.left c.send_all.new.link) (g.K.Sink.holds c.send_all.new.link) (g.K.Link.faults c.send_all.new.link)))
      c.bytes-in-Ok-Write.ensures c.in-Failed.ensures.sent.0,
  c.in-Failed.ensures.sent.1,
  c.in-Failed.ensures.left,
)

pub returns-in-Ok-Silent-clause-took : goal.returns-in-Ok-Silent-clause-took
returns-in-Ok-Silent-clause-took g c = (
  None,
  subst (λ (x : Stepped). IsStepped (g.G.GroupPort.exchanges c.args.port.now) c.args.host.0 c.args.received.1 (calling_of c.args.received.0) x c.args.pass.now c.step.new.pass)
      c.in-Ok-Silent.field-0-is c.in-Ok-Silent.ensures.stepped,
  none_gained (g.K.Sink.holds c.args.link.now),
  refl,
  refl,
)
