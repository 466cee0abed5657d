use Rattle.std.proofs.Common.{[], ◌∷◌, ◌++◌, ◌∙◌, List, ℕ, ap}
use Rattle.std.specs.Prelude.{map}
use Rattle.ft_report.specs.declared.reports.ReportLine.{ReportLine}
use Rattle.ft_report.specs.declared.reports.ReportLine.TheVariants as reports
use Rattle.group_looks.specs.Showing.{figure_line}
use Rattle.group_looks.proofs.Showing.{shown_is}
use Rattle.group_looks.proofs.lines.show_lines.Goals as goal

pub returns : goal.returns
returns c = λ m g same are.
    let figures = c.args.figures in
    let lines = map (figure_line c.args.style figures.view) figures.hosts.items in
    let first = c.in_ok-push.ensures
    ∙ ap (λ (lines : List ReportLine). lines ++ reports.Show c.in_ok-group.group figures.view.version figures.entries figures.mark figures.time ∷ []) c.new-report.ensures
    ∙ ap (λ (name : List ℕ). reports.Show name figures.view.version figures.entries figures.mark figures.time ∷ []) c.in_ok-group.ensures in
    c.in_ok-push_lines.ensures ∙ ap (λ (before : List ReportLine). before ++ lines) first ∙ shown_is m g c.args.name.now c.args.style figures same are
