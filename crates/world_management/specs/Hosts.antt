-- Lines that stop and start hosts, change members and report faults, and what `show` prints.
use Rattle.std.specs.Prelude.{ℕ, ◌+◌, not, false, if◌then◌else◌, List, [], ◌∷◌, length, Option, Some, None}
use Rattle.ft_base.specs.declared.numbers.GroupId.{GroupId}
use Rattle.ft_base.specs.declared.numbers.HostNo.{HostNo}
use Rattle.fault_notifier.specs.declared.events.FaultEvent.{FaultEvent}
use Rattle.fault_script.specs.declared.lines.LineFault.TheVariants.{Unknown}
use Rattle.fault_script.specs.declared.lines.MemberChange.{MemberChange}
use Rattle.fault_script.specs.declared.lines.MemberChange.TheVariants as words
use Rattle.ft_report.specs.declared.reports.ReportLine.TheVariants as reports
use Rattle.group_model.specs.declared.changes.Change.{Change}
use Rattle.group_model.specs.declared.changes.Change.TheVariants as changes
use Rattle.group_model.specs.declared.events.Event.TheVariants as events
use Rattle.group_model.specs.declared.events.GroupAnswer.{GroupAnswer}
use Rattle.group_model.specs.declared.events.GroupAnswer.TheVariants as group_answers
use Rattle.group_model.specs.Views.{host_no}
use Rattle.iogr_reference.specs.declared.choices.TheConstants.{DOMAIN}
use Rattle.script_groups.specs.Groups.{ScriptGroup, Placed, turn}
use Rattle.script_groups.specs.Showing.{shown}
use Rattle.script_world.specs.declared.hosts.HostState.{HostState}
use Rattle.script_world.specs.World.{World, fresh_host, is_there, is_up, with_event, with_fault, with_host}
use Rattle.shipped_servants.specs.declared.kinds.Kind.{Kind}
use Rattle.shipped_servants.specs.Kinds.{type_id}
use Rattle.world_management.specs.Membership.{report_of}
use Rattle.world_turns.specs.Sending.{all_sent, sent_lines, view_line}
use Rattle.world_turns.specs.Naming.{Naming, NeverMade, Deleted, There, gone, group_called}
use Rattle.world_turns.specs.Turns.{Cause, Effect, Turn, Refused, cause, costing, first_cause, goes, says, unless}

-- ---- `crash H`, `restart H`

-- a host that stops is down for every group
abbrev pub down_host : HostState
down_host = record { up = false; clock = 0 }

abbrev pub stopped : World → HostNo → World
stopped w host = with_host w host.0 down_host (events.Crash host)

-- one that starts again has a clock at 0
abbrev pub started_again : World → HostNo → World
started_again w host = with_host w host.0 fresh_host (events.Restart host)

abbrev pub host_causes : World → ℕ → List Cause
host_causes w host = cause (not (is_there w host)) Unknown ∷ []

-- what a line about a host does, where that is there
abbrev pub on_host : World → ℕ → Effect → Turn
on_host w host e = unless (first_cause (host_causes w host)) 0 (goes e)

abbrev pub crash_line : World → ℕ → Turn
crash_line w host =
    unless (first_cause (host_causes w host)) 0
    (goes (says (if is_up w host then stopped w (host_no host) else w) (reports.Down (host_no host) ∷ [])))

abbrev pub restart_line : World → ℕ → Turn
restart_line w host =
    unless (first_cause (host_causes w host)) 0
    (goes (says (if is_up w host then w else started_again w (host_no host)) (reports.Up (host_no host) ∷ [])))

-- ---- `add G H`, `remove G H`, `primary G H`, `report G H`

-- what is asked of the group
abbrev pub change_of : World → ScriptGroup → MemberChange → HostNo → Change
change_of w g words.Add host = changes.Add host
change_of w g words.Remove host = changes.Remove host
change_of w g words.Primary host = changes.Primary host
change_of w g words.Report host = report_of w g host

-- the fault of a member of a group of this kind, as subscribers are told of it (chapter 23, Fault Management)
abbrev pub fault_of : Kind → GroupId → HostNo → FaultEvent
fault_of kind group host = record { domain = DOMAIN; host = host; type_id = type_id kind; group = group }

-- the host that a change reports as faulty
abbrev pub reported_by : Change → Option HostNo
reported_by (changes.Report host) = Some host
reported_by (changes.Replace host spares) = Some host
reported_by other = None

abbrev pub with_told : World → Kind → GroupId → Option HostNo → World
with_told w kind group None = w
with_told w kind group (Some host) = with_fault w (fault_of kind group host)

-- a report that was accepted is a fault, whether or not spares come; no other change is
abbrev pub with_reported : World → Kind → GroupId → Change → World
with_reported w kind group change = with_told w kind group (reported_by change)

-- the new view is sent, or the change was refused
abbrev pub changed : World → HostNo → ScriptGroup → Change → GroupAnswer → Effect
changed w host g change (group_answers.Changed view out) =
    says (with_reported (all_sent w g.id out) g.kind g.id change)
    (view_line g.name view ∷ sent_lines (length w.messages + 1) g.name host out)
changed w host g change (group_answers.Refused why) = says w (reports.Refused why ∷ [])
changed w host g change other = says w []

abbrev pub changes_members : World → Placed ScriptGroup → Change → HostNo → Effect
changes_members w g change host =
    let t = turn g.value (events.Manage change) in
    costing t.calls (changed (with_event w g.place g.value (events.Manage change)) host g.value change t.answer)

abbrev pub change_to : World → Naming → MemberChange → ℕ → Turn
change_to w NeverMade change host = Refused Unknown 0
change_to w (Deleted g) change host = on_host w host (gone w)
change_to w (There g) change host = on_host w host (changes_members w g (change_of w g.value change (host_no host)) (host_no host))

abbrev pub change_line : World → MemberChange → List ℕ → ℕ → Turn
change_line w change group host = change_to w (group_called w group) change host

-- ---- `show G`

abbrev pub show_found : World → Naming → Turn
show_found w NeverMade = Refused Unknown 0
show_found w (Deleted g) = goes (gone w)
show_found w (There g) = goes (says w (shown g.value))

abbrev pub show_line : World → List ℕ → Turn
show_line w name = show_found w (group_called w name)
