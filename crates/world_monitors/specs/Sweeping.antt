-- `sweep G`: each member that is overdue when the line begins is reported, one after another in order of joining.
use Rattle.std.specs.Prelude.{ℕ, List, [], ◌∷◌}
use Rattle.fault_script.specs.declared.lines.LineFault.TheVariants.{Unknown}
use Rattle.ft_report.specs.declared.reports.ReportLine.TheVariants as reports
use Rattle.group_model.specs.declared.events.Event.TheVariants.{Manage}
use Rattle.group_model.specs.Views.{host_no}
use Rattle.script_groups.specs.Groups.{ScriptGroup, Placed, acted, placed}
use Rattle.script_world.specs.World.{World}
use Rattle.world_management.specs.Hosts.{changes_members}
use Rattle.world_management.specs.Membership.{report_of}
use Rattle.world_monitors.specs.Monitoring.{overdue}
use Rattle.world_turns.specs.Naming.{Naming, NeverMade, Deleted, There, gone, group_called}
use Rattle.world_turns.specs.Turns.{Effect, Turn, Refused, costing, goes, says, saying}

-- the group behind a report
abbrev pub reported : World → Placed ScriptGroup → ℕ → Placed ScriptGroup
reported w p host = placed p.place (acted p.value (Manage (report_of w p.value (host_no host))))

abbrev pub reports_one : World → Placed ScriptGroup → ℕ → Effect
reports_one w p host = changes_members w p (report_of w p.value (host_no host)) (host_no host)

-- one after another; a report that is refused is said, and the next follows
unfoldable pub reports_all : World → Placed ScriptGroup → List ℕ → Effect
reports_all w p [] = says w []
reports_all w p (host ∷ hosts) =
    let e = reports_one w p host in
    saying e.lines (costing e.calls (reports_all e.world (reported w p host) hosts))

abbrev pub sweeps : World → Placed ScriptGroup → List ℕ → Effect
sweeps w p [] = says w (reports.SweepNone p.value.name ∷ [])
sweeps w p (host ∷ hosts) = reports_all w p (host ∷ hosts)

abbrev pub swept : World → Placed ScriptGroup → Effect
swept w p = sweeps w p (overdue w p.value)

abbrev pub sweep_of : World → Naming → Turn
sweep_of w NeverMade = Refused Unknown 0
sweep_of w (Deleted g) = goes (gone w)
sweep_of w (There g) = goes (swept w g)

abbrev pub sweep_line : World → List ℕ → Turn
sweep_line w name = sweep_of w (group_called w name)
