use Rattle.std.proofs.Common.{false, ap, sym, ◌∙◌}
use Rattle.std.specs.Prelude.{option_copied}
use Rattle.group_core.specs.Telling.{shown_view}
use Rattle.script_groups.specs.Groups.{common_of, is_in}
use Rattle.script_groups.proofs.Telling.{knows_is}
use Rattle.script_groups.proofs.groups.ScriptGroup.knows_as_member.Goals as goal

pub returns-in-None : goal.returns-in-None
returns-in-None c =
    ap (is_in c.args.host.0) (sym (ap option_copied c.in-None.is) ∙ c.view.ensures)
    ∙ ap (λ k. is_in c.args.host.0 (shown_view (common_of c.args.self.now) k))
    (knows_is c.cores_tell.ensures c.core.result.now c.args.self.now c.core.ensures c.args.host.0 c.requires.host c.known.result c.known.ensures)

pub returns-in-Some : goal.returns-in-Some
returns-in-Some c =
    c.has.ensures
    ∙ ap (is_in c.args.host.0) (sym (ap option_copied c.in-Some.is) ∙ c.view.ensures)
    ∙ ap (λ k. is_in c.args.host.0 (shown_view (common_of c.args.self.now) k))
    (knows_is c.cores_tell.ensures c.core.result.now c.args.self.now c.core.ensures c.args.host.0 c.requires.host c.known.result c.known.ensures)
