-- What lines read of a group. (Chapter 23, `locations_of_members`, `get_object_group_id`, `get_object_group_ref`,
-- `get_member_ref`.)
use Rattle.std.specs.Prelude.{if◌then◌else◌}
use Rattle.ft_base.specs.Members.{is_member}
use Rattle.ft_base.specs.declared.numbers.HostNo.{HostNo}
use Rattle.ft_report.specs.declared.reports.ReportLine.{ReportLine}
use Rattle.ft_report.specs.declared.reports.ReportLine.TheVariants as reports
use Rattle.group_model.specs.Views.{newest_view}
use Rattle.group_model.specs.declared.changes.ManageFault.TheVariants.{MemberNotFound}
use Rattle.iogr_reference.specs.Texts.{text_of}
use Rattle.script_groups.specs.Groups.{ScriptGroup, common_of}
use Rattle.script_groups.specs.References.{member_ior, newest_ior}

-- the hosts of its members, in order of joining
abbrev pub located : ScriptGroup → ReportLine
located g = reports.Locations g.name (newest_view (common_of g)).members

-- its number
abbrev pub identified : ScriptGroup → ReportLine
identified g = reports.Id g.name g.id

-- its newest reference
abbrev pub referred : ScriptGroup → ReportLine
referred g = reports.Ref g.name (text_of (newest_ior g))

-- the plain reference of the member on a host
abbrev pub member_at : ScriptGroup → HostNo → ReportLine
member_at g host = reports.MemberRef g.name host (text_of (member_ior g host.0))

-- where that is a member of the newest view
abbrev pub member_referred : ScriptGroup → HostNo → ReportLine
member_referred g host =
    if is_member host.0 (newest_view (common_of g)).members then member_at g host else reports.Refused (MemberNotFound host)
