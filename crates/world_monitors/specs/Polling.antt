-- `poll G`: the members of a group are watched, and those that are due are asked whether they are alive.
use Rattle.std.specs.Prelude.{ℕ, suc, ◌+◌, List, [], ◌∷◌, length, map}
use Rattle.fault_monitor.specs.Watching.{asked}
use Rattle.fault_script.specs.declared.lines.LineFault.TheVariants.{Unknown}
use Rattle.ft_base.specs.declared.numbers.GroupId.{GroupId}
use Rattle.ft_report.specs.declared.reports.ReportLine.{ReportLine}
use Rattle.ft_report.specs.declared.reports.ReportLine.TheVariants as reports
use Rattle.group_model.specs.Views.{host_no}
use Rattle.script_groups.specs.Groups.{ScriptGroup}
use Rattle.script_monitor.specs.Watches.{Watches, told}
use Rattle.script_world.specs.World.{World, with_messages, with_watch}
use Rattle.script_world.specs.declared.messages.Message.{Message}
use Rattle.script_world.specs.declared.messages.Message.TheVariants as messages
use Rattle.world_management.specs.Membership.{members_of}
use Rattle.world_monitors.specs.Monitoring.{due, monitored, watching}
use Rattle.world_turns.specs.Naming.{Naming, NeverMade, Deleted, There, gone, group_called}
use Rattle.world_turns.specs.Turns.{Effect, Turn, Refused, goes, says}

-- each of these was asked now
unfoldable pub all_asked : Watches → ℕ → ℕ → List ℕ → Watches
all_asked watch group clock [] = watch
all_asked watch group clock (host ∷ hosts) = all_asked (told watch group host (asked clock)) group clock hosts

abbrev pub ping : GroupId → ℕ → Message
ping group host = messages.Ping group (host_no host)

abbrev pub pings : GroupId → List ℕ → List Message
pings group hosts = map (ping group) hosts

unfoldable pub ping_lines : ℕ → List ℕ → List ℕ → List ReportLine
ping_lines number name [] = []
ping_lines number name (host ∷ hosts) = reports.Ping number (host_no host) name ∷ ping_lines (suc number) name hosts

-- each of these members is asked now
abbrev pub asks_all : World → GroupId → List ℕ → List ℕ → Effect
asks_all w group name hosts =
    says (with_messages (with_watch w (all_asked w.watch group.0 w.clock hosts)) (pings group hosts))
    (ping_lines (length w.messages + 1) name hosts)

abbrev pub asks : World → ScriptGroup → List ℕ → Effect
asks w g [] = says w (reports.PollNone g.name ∷ [])
asks w g (host ∷ hosts) = asks_all w g.id g.name (host ∷ hosts)

abbrev pub watched_members : World → ScriptGroup → World
watched_members w g = with_watch w (watching w.watch g.id.0 (members_of g) (monitored w g))

abbrev pub polled : World → ScriptGroup → Effect
polled w g = let v = watched_members w g in asks v g (due v g)

abbrev pub poll_of : World → Naming → Turn
poll_of w NeverMade = Refused Unknown 0
poll_of w (Deleted g) = goes (gone w)
poll_of w (There g) = goes (polled w g.value)

abbrev pub poll_line : World → List ℕ → Turn
poll_line w name = poll_of w (group_called w name)
