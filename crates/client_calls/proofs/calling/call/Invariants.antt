use Rattle.std.proofs.Common.{◌≡◌, ℕ, Option, IfSome}
use Rattle.outside_links.specs.Lending.{IsLent}
use Rattle.client_talk.specs.Talking.{AreOut, dialing}
use Rattle.client_calls.specs.Calls.{IsResting, Resting}
use Rattle.client_calls.proofs.CallLaws.{IsGoing}
use Rattle.client_calls.proofs.calling.call.Given as goal

abbrev pub invariant-loop : goal.invariant-loop
invariant-loop g l = record {
  on : (s : Resting) → s.reference ≡ l.fn.reference
      → IsResting g.L.Source.left g.L.Sink.holds g.L.Link.faults l.fn.core l.fn.line (dialing (g.D.Dialer.links l.fn.dialer) (g.D.Dialer.targets l.fn.dialer) (g.D.Dialer.sent l.fn.dialer) (g.D.Dialer.count l.fn.dialer)) s
      → IsGoing g.L.Source.left g.L.Sink.holds g.L.Link.faults l.fn.request s l.heard.items l.core l.act l.last l.line
      (dialing (g.D.Dialer.links l.dialer) (g.D.Dialer.targets l.dialer) (g.D.Dialer.sent l.dialer) (g.D.Dialer.count l.dialer));
  lent : IfSome l.line (λ _. IsLent (g.D.Dialer.lent l.dialer));
  out : (others : Option ℕ) → AreOut others l.fn.line (g.D.Dialer.lent l.fn.dialer) → AreOut others l.line (g.D.Dialer.lent l.dialer);
}
