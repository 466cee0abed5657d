use Rattle.group_core.specs.Trying.{IsSome}
use Rattle.bench_core.proofs.groups.ask_all.Given as goal

-- the core goes on standing for a group
abbrev pub invariant-loop-id : goal.invariant-loop-id
invariant-loop-id g l = IsSome g.S.Servant.machine l.core
