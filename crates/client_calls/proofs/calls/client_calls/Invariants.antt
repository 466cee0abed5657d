use Rattle.std.proofs.Common.{◌≡◌, length, None, IfSome}
use Rattle.outside_links.specs.Lending.{IsLent}
use Rattle.client_talk.specs.Talking.{AreOut, dialing}
use Rattle.client_calls.specs.Requests.{HasHosts}
use Rattle.client_calls.proofs.MadeLaws.{AreMade}
use Rattle.client_calls.proofs.calls.client_calls.Given as goal

abbrev pub invariant-loop-done : goal.invariant-loop-done
invariant-loop-done g l = record {
  on : AreMade g.L.Source.left g.L.Sink.holds g.L.Link.faults l.fn.name l.fn.reference
      (dialing (g.D.Dialer.links l.fn.dialer) (g.D.Dialer.targets l.fn.dialer) (g.D.Dialer.sent l.fn.dialer) (g.D.Dialer.count l.fn.dialer)) l.told.items l.held l.core l.line
      (dialing (g.D.Dialer.links l.dialer) (g.D.Dialer.targets l.dialer) (g.D.Dialer.sent l.dialer) (g.D.Dialer.count l.dialer));
  many : length l.told.items ≡ l.done;
  idle : l.core.progress ≡ None;
  hosts : HasHosts l.held;
  lent : IfSome l.line (λ _. IsLent (g.D.Dialer.lent l.dialer));
  out : AreOut (g.D.Dialer.lent l.fn.dialer) l.line (g.D.Dialer.lent l.dialer);
}
