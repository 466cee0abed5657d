use Rattle.group_core.specs.Trying.{IsSome}
use Rattle.group_core.proofs.tests.run_rows.Given as goal

-- the core goes on standing for a group
abbrev pub invariant-loop-step : goal.invariant-loop-step
invariant-loop-step g l = IsSome g.S.Servant.machine l.trial.core
