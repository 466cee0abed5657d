use Rattle.std.proofs.Common.{◌≡◌, ap, subst, ◌∙◌}
use Rattle.std.specs.Prelude.{option_copied}
use Rattle.group_core.specs.Telling.{shown_view}
use Rattle.script_groups.specs.Groups.{ScriptGroup, common_of}
use Rattle.script_groups.specs.Viewing.{seen}
use Rattle.script_groups.proofs.Telling.{view_is}
use Rattle.script_groups.proofs.groups.ScriptGroup.view.Goals as goal

pub returns : goal.returns
returns c =
    let stands = c.self.invariant (ap (λ (s : ScriptGroup). s.poisoned) c.self.view_is ∙ c.requires) in
    subst (λ s. option_copied c.view.result ≡ shown_view (common_of s) c.args.version.0) c.self.view_is
    (c.view.ensures ∙ view_is c.cores_tell.ensures c.self.inside.core (seen c.self.inside) stands c.args.version.0)
