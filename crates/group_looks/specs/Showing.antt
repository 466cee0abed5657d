-- What `show` prints of a group.
use Rattle.std.specs.Prelude.{ℕ, if◌then◌else◌, List, ◌∷◌, ◌++◌, length, map, Option, Some, None}
use Rattle.ft_base.specs.Members.{is_member}
use Rattle.ft_base.specs.Views.{is_led_by, is_passive}
use Rattle.ft_base.specs.declared.numbers.Version.{Version}
use Rattle.ft_base.specs.declared.views.Style.{Style}
use Rattle.ft_base.specs.declared.views.View.{View}
use Rattle.ft_base.specs.Machine.{Machine}
use Rattle.ft_report.specs.declared.reports.ReportLine.{ReportLine}
use Rattle.ft_report.specs.declared.reports.ReportLine.TheVariants as reports
use Rattle.ft_report.specs.declared.reports.Role.{Role}
use Rattle.ft_report.specs.declared.reports.Role.TheVariants as roles
use Rattle.ft_report.specs.declared.reports.Standing.{Standing}
use Rattle.ft_report.specs.declared.reports.Standing.TheVariants as standings
use Rattle.group_looks.specs.Looks.{formers}
use Rattle.group_looks.specs.declared.figures.Figure.{Figure}
use Rattle.group_model.specs.Plain.{Common, Host, Group, state_at}
use Rattle.group_model.specs.Views.{version, host_no, newest_view}

-- a host that is up, with a servant or without
abbrev pub standing_up : Machine → Common → Host → Standing
standing_up m c h =
    if h.place.loaded then standings.At (version h.known) h.place.position (state_at m c h.place.position)
    else standings.Blank (version h.known)

abbrev pub standing_of : Machine → Common → Host → Standing
standing_of m c h = if h.up then standing_up m c h else standings.Down

abbrev pub member_role : Style → View → ℕ → Role
member_role style view host =
    if is_passive style then (if is_led_by view host then roles.Primary else roles.Backup) else roles.Active

-- the line of a host in a role
abbrev pub host_line : Machine → Group → Role → ℕ → ReportLine
host_line m g role host = reports.Member (host_no host) role (standing_of m g.common (g.hosts host))

abbrev pub member_line : Machine → Group → ℕ → ReportLine
member_line m g host = host_line m g (member_role g.common.style (newest_view g.common) host) host

-- the group, its members in order of joining, and then those that were members, by number
abbrev pub shown_of : List ℕ → Machine → Group → List ReportLine
shown_of name m g =
    let view = newest_view g.common in
    reports.Show name view.version (length g.common.journal) g.common.mark (record { 0 = g.common.time })
    ∷ map (member_line m g) view.members ++ map (host_line m g roles.Former) (formers g)

-- ---- the same of figures

-- what a host is in a group of this view
abbrev pub role_of : Style → View → ℕ → Role
role_of style view host = if is_member host view.members then member_role style view host else roles.Former

-- a host that is up, with a servant at a position and in a state there, or without
abbrev pub standing_at : Version → Option (ℕ × List ℕ) → Standing
standing_at known None = standings.Blank known
standing_at known (Some at) = standings.At known at.0 at.1

abbrev pub standing_by : Figure → Standing
standing_by figure = if figure.up then standing_at figure.known figure.at else standings.Down

abbrev pub figure_line : Style → View → Figure → ReportLine
figure_line style view figure = reports.Member figure.host (role_of style view figure.host.0) (standing_by figure)
