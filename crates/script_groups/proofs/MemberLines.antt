-- The line of a member's plain reference.
use Rattle.std.proofs.Common.{◌≡◌, ℕ, List, ap, ◌∙◌}
use Rattle.ft_base.specs.declared.numbers.HostNo.{HostNo}
use Rattle.ft_report.specs.declared.reports.ReportLine.TheVariants as reports
use Rattle.iogr_reference.specs.declared.references.Ior.{Ior}
use Rattle.iogr_reference.specs.Texts.{text_of}
use Rattle.script_groups.specs.Groups.{ScriptGroup}
use Rattle.script_groups.specs.Reading.{member_at}
use Rattle.script_groups.specs.References.{member_ior}

pub member_is : (g : ScriptGroup) (host : HostNo) (name text : List ℕ) (reference : Ior) → name ≡ g.name → text ≡ text_of reference →
    reference ≡ member_ior g host.0 → reports.MemberRef name host text ≡ member_at g host
member_is g host name text reference named spelled is =
    ap (λ (n : List ℕ). reports.MemberRef n host text) named ∙ ap (λ (t : List ℕ). reports.MemberRef g.name host t) (spelled ∙ ap text_of is)
