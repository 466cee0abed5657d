-- The monitor's messages as they come: a ping to a host, a host's answer to the monitor.
use Rattle.std.specs.Prelude.{ℕ, ◌+◌, Bool, true, false, if◌then◌else◌, is_some, List, [], ◌∷◌, length}
use Rattle.fault_monitor.specs.Watching.{answered}
use Rattle.ft_base.specs.declared.numbers.GroupId.{GroupId}
use Rattle.ft_base.specs.declared.numbers.HostNo.{HostNo}
use Rattle.ft_report.specs.declared.reports.ReportLine.{ReportLine}
use Rattle.ft_report.specs.declared.reports.ReportLine.TheVariants as reports
use Rattle.script_groups.specs.Groups.{ScriptGroup}
use Rattle.script_monitor.specs.Watches.{member_at, told}
use Rattle.script_world.specs.World.{World, is_up, with_messages, with_watch}
use Rattle.script_world.specs.declared.messages.Message.TheVariants as messages
use Rattle.world_turns.specs.Naming.{Naming, NeverMade, Deleted, There, group_with_number, late_line}
use Rattle.world_turns.specs.Turns.{Effect, says}

-- a host that is up answers, whether or not it is a member
abbrev pub pinged : World → ℕ → ScriptGroup → HostNo → Effect
pinged w k g host =
    if is_up w host.0 then says (with_messages w (messages.Pong g.id host ∷ [])) (reports.Pong (length w.messages + 1) host g.name ∷ [])
    else says w (reports.Lost k ∷ [])

abbrev pub ping_of : World → ℕ → HostNo → Naming → Effect
ping_of w k host NeverMade = says w []
ping_of w k host (Deleted g) = says w (late_line w k host ∷ [])
ping_of w k host (There g) = pinged w k g.value host

abbrev pub ping_comes : World → ℕ → GroupId → HostNo → Effect
ping_comes w k group host = ping_of w k host (group_with_number w group.0)

-- the monitor hears it of a member that it watches
abbrev pub alive_line : Bool → ℕ → List ℕ → HostNo → ReportLine
alive_line true k name host = reports.Alive name host
alive_line false k name host = reports.IgnoredUnwatched k

abbrev pub ponged : World → ℕ → ScriptGroup → HostNo → Effect
ponged w k g host =
    says (with_watch w (told w.watch g.id.0 host.0 answered)) (alive_line (is_some (member_at w.watch g.id.0 host.0)) k g.name host ∷ [])

abbrev pub pong_of : World → ℕ → HostNo → Naming → Effect
pong_of w k host NeverMade = says w []
pong_of w k host (Deleted g) = says w (reports.IgnoredDeleted k ∷ [])
pong_of w k host (There g) = ponged w k g.value host

abbrev pub pong_comes : World → ℕ → GroupId → HostNo → Effect
pong_comes w k group host = pong_of w k host (group_with_number w group.0)
