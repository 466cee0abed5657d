use Rattle.group_core.specs.Opening.{AreBlank}
use Rattle.group_core.proofs.cores.blank_hosts.Given as goal

abbrev pub invariant-loop-number : goal.invariant-loop-number
invariant-loop-number g l = AreBlank (g.S.Servant.kind l.founding.opening) (g.S.Servant.state l.founding.opening) l.hosts.items l._number
