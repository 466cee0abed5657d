use Rattle.std.proofs.Common.{List, ℕ, [], ◌∷◌, ◌++◌, Bool, false, Option, ap, subst, ◌∙◌}
use Rattle.ft_outside.specs.Keeping.{IsForetold, plan_after}
use Rattle.message_log.proofs.logs.start.Goals as goal

pub returns-in-Done-clause-started : goal.returns-in-Done-clause-started
returns-in-Done-clause-started g c = (
  subst (λ (p : Option (List Bool)). IsForetold p false) c.reserve.ensures.plan c.in-Done.ensures.foretold,
  c.in-Done.ensures.records
      ∙ ap (λ (rs : List (List ℕ)). rs ++ c.in-Ok.record ∷ []) c.reserve.ensures.records
      ∙ ap (λ (r : List ℕ). g.K.Keeper.records c.args.keeper.now ++ r ∷ []) c.in-Ok.ensures.written,
  c.in-Done.ensures.plan ∙ ap plan_after c.reserve.ensures.plan,
  c.in-Done.ensures.faults ∙ c.reserve.ensures.faults,
)
