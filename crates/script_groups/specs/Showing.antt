-- What `show` prints of a group.
use Rattle.std.specs.Prelude.{List}
use Rattle.ft_report.specs.declared.reports.ReportLine.{ReportLine}
use Rattle.group_looks.specs.Showing.{shown_of}
use Rattle.script_groups.specs.Groups.{ScriptGroup, machine_of, group_of}

abbrev pub shown : ScriptGroup → List ReportLine
shown g = shown_of g.name (machine_of g) (group_of g)
