use Rattle.std.proofs.Common.{◌≡◌}
use Rattle.link_serving.specs.Wires.{wire}
use Rattle.link_serving.proofs.Going.{IsGoing}
use Rattle.link_serving.proofs.serving.serve_visit.Given as goal

abbrev pub invariant-loop : goal.invariant-loop
invariant-loop g l = record {
  fits : g.G.GroupPort.fits l.initial.port l.pass;
  on : IsGoing (g.G.GroupPort.exchanges l.initial.port) l.initial.host.0 l.fn.pass (wire (g.K.Source.left l.fn.link) (g.K.Sink.holds l.fn.link) (g.K.Link.faults l.fn.link))
      l.pass (wire (g.K.Source.left l.link) (g.K.Sink.holds l.link) (g.K.Link.faults l.link)) l.session l.front;
  closed : g.K.Link.closed l.link ≡ g.K.Link.closed l.fn.link;
}
