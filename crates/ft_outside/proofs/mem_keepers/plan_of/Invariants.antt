use Rattle.std.proofs.Common.{◌≡◌}
use Rattle.ft_outside.specs.Keeping.{planned_first}
use Rattle.ft_outside.proofs.mem_keepers.plan_of.Given as goal

-- the places so far
abbrev pub invariant-loop-calls : goal.invariant-loop-calls
invariant-loop-calls l = l.plan.items ≡ planned_first l.calls l.fails
