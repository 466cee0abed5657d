use Rattle.std.proofs.Common.{◌∷◌, [], ◌++◌, ap, sym, subst, ◌∙◌}
use Rattle.group_core.specs.Cores.{CorePicture}
use Rattle.script_groups.specs.declared.happenings.Happening.{Happening}
use Rattle.script_groups.specs.Groups.{group_of}
use Rattle.script_groups.specs.Standing.{IsStanding}
use Rattle.script_groups.specs.Viewing.{seen}
use Rattle.script_groups.proofs.Acts.{stands_failing}
use Rattle.script_groups.proofs.groups.ScriptGroup.fail_next.Goals as goal

pub invariant_of-self : goal.invariant_of-self
invariant_of-self c = λ kept.
    let before = seen c.self.inside in
    let stands = c.self.invariant kept in
    let now = c.fail_next.new.self in
    let grown = c.push.ensures ∙ ap (λ (h : Happening). before.happenings ++ h ∷ []) c.of.ensures in
    subst (λ hs. IsStanding now (record before { happenings = hs })) (sym grown)
    (stands_failing before c.self.inside.core now stands (c.fail_next.ensures.stands (group_of before) stands.core_stands) (ap (λ (p : CorePicture). p.log.plan) c.in-Ok.ensures.planned))
