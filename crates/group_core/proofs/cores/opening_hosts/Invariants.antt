use Rattle.group_core.specs.Opening.{AreOpening}
use Rattle.group_core.proofs.cores.opening_hosts.Given as goal

abbrev pub invariant-loop-number : goal.invariant-loop-number
invariant-loop-number g l = AreOpening (g.S.Servant.kind l.founding.opening) (g.S.Servant.state l.founding.opening) l.founding.style l.view l.hosts.items l.number
