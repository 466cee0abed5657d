use Rattle.std.proofs.Common.{◌≡◌, ℕ, List, length}
use Rattle.link_serving.specs.Serving.{IsAmid}
use Rattle.link_serving.specs.Wires.{Wire, wire}
use Rattle.link_serving.proofs.serving.serve_fed.Given as goal

-- whatever was fed and answered before, the messages so far are answered too
abbrev pub invariant-messages : goal.invariant-messages
invariant-messages g l = record {
  fits : g.G.GroupPort.fits l.fn.port l.pass;
  on : (fed : List ℕ) (p : g.row.G-Pass.Denot) (w : Wire)
      → IsAmid (g.G.GroupPort.exchanges l.fn.port) l.fn.host.0 fed p w l.fn.pass (wire (g.K.Source.left l.fn.link) (g.K.Sink.holds l.fn.link) (g.K.Link.faults l.fn.link)) l.fn.session
      → IsAmid (g.G.GroupPort.exchanges l.fn.port) l.fn.host.0 fed p w l.pass (wire (g.K.Source.left l.link) (g.K.Sink.holds l.link) (g.K.Link.faults l.link)) l.session;
  closed : g.K.Link.closed l.link ≡ g.K.Link.closed l.fn.link;
}

abbrev pub decreases-messages : goal.decreases-messages
decreases-messages g l = length l.session.frames.rest
