use Rattle.std.proofs.Common.{[], Some, ap, sym, subst, ◌∙◌}
use Rattle.ft_outside.specs.Keeping.{plan_after}
use Rattle.script_groups.specs.Groups.{opened}
use Rattle.script_groups.specs.Standing.{IsStanding}
use Rattle.script_groups.proofs.Acts.{opens}
use Rattle.script_groups.proofs.groups.ScriptGroup.new.Goals as goal

pub invariant_of-result : goal.invariant_of-result
invariant_of-result c = λ kept.
    subst (λ hs. IsStanding c.in-Ok.core (record (opened c.args.id c.args.name c.args.kind c.args.style c.copy-first.result) { happenings = hs })) (sym c.new-in-Ok.ensures)
    (opens c.args.id c.args.name c.args.kind c.args.style c.args.members c.copy-first.result _ _ c.in-Ok.core
    c.in_ok-opening.ensures.kind c.in_ok-opening.ensures.state c.copy-first.ensures c.in-Ok.ensures.stands
    (c.in-Ok.ensures.planned ∙ ap (λ k. plan_after (Some k.plan)) c.in_ok-keeper.ensures.empty))
