-- The lines that were written.
use Rattle.ft_report.specs.declared.histories.WrittenLine.{WrittenLine}
use Rattle.ft_report.specs.declared.histories.WrittenLine.TheVariants as written
use Rattle.ft_report.specs.declared.reports.ReportLine.{ReportLine}
use Rattle.ft_report.specs.declared.reports.ReportLine.TheVariants as reports

abbrev pub line_of : WrittenLine → ReportLine
line_of (written.Whole line) = line.value
line_of (written.At host group decision) = reports.At host group.value decision
line_of (written.Reply message host client id shown) = reports.Reply message host client.value id shown.value
line_of (written.Bytes bytes) = reports.Bytes bytes.value
