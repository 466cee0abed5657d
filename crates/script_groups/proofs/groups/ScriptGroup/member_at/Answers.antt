use Rattle.std.proofs.Common.{◌∙◌}
use Rattle.script_groups.proofs.MemberLines.{member_is}
use Rattle.script_groups.proofs.groups.ScriptGroup.member_at.Goals as goal

pub returns : goal.returns
returns c =
    member_is c.args.self.now c.args.host c.in_ok-group.group c.in_ok-text.text c.in_ok-reference.reference
    (c.in_ok-group.ensures ∙ c.name.ensures) c.in_ok-text.ensures.value c.in_ok-reference.ensures.reference
