use Rattle.std.proofs.Common.{◌≡◌, ℕ, ◌+◌, List, [], ◌∷◌, ◌++◌, refl, add-one, arith}
use Rattle.std.specs.Prelude.{◌==◌}
use Rattle.std.specs.List.{list_any}
use Rattle.std.proofs.lemmas.Grind.{common_steps}
use Rattle.ft_outside.specs.Keeping.{planned_first}
use Rattle.ft_outside.proofs.mem_keepers.plan_of.Goals as goal

-- one more place
planned_next : (n : ℕ) (fails : List ℕ) → planned_first (n + 1) fails ≡ planned_first n fails ++ list_any (λ number. number == n + 1) fails ∷ []
planned_next n fails = rw (add-one n) refl

pub loop-calls-preserved : goal.loop-calls-preserved
loop-calls-preserved c = grind (arith, common_steps, planned_next c.loop-calls.calls c.args.fails.now)
