-- How a group is monitored, and whom the monitor watches of it. (Chapter 23, Fault Management: the PULL style, the
-- interval and the timeout.)
use Rattle.std.specs.Prelude.{ℕ, Bool, if◌then◌else◌, List, [], ◌∷◌, Option, Some, None}
use Rattle.std.specs.List.{filter, range_with_len}
use Rattle.ft_base.specs.declared.limits.TheConstants.{HOST_LIMIT}
use Rattle.ft_base.specs.Members.{is_member}
use Rattle.fault_monitor.specs.Watching.{Watched, if_watched, is_due, is_overdue, numbered}
use Rattle.property_manager.specs.declared.effective.Levels.{Levels}
use Rattle.property_manager.specs.declared.names.PropertyName.TheVariants as names
use Rattle.property_manager.specs.declared.numbers.IntervalAndTimeout.{IntervalAndTimeout}
use Rattle.property_manager.specs.declared.styles.FaultMonitoringStyle.{FaultMonitoringStyle}
use Rattle.property_manager.specs.declared.styles.FaultMonitoringStyle.TheVariants as styles
use Rattle.property_manager.specs.Groups.{group_of, levels_of}
use Rattle.property_manager.specs.Levels.{effective}
use Rattle.property_manager.specs.Numbers.{interval_and_timeout}
use Rattle.property_manager.specs.Styles.{monitoring_style}
use Rattle.script_groups.specs.Groups.{ScriptGroup}
use Rattle.script_monitor.specs.Watches.{Watches, member_at, with_member}
use Rattle.script_world.specs.World.{World}
use Rattle.world_management.specs.Membership.{members_of}

-- ---- the numbers of a group whose style is PULL; another group has none

abbrev pub pulled_by : Option FaultMonitoringStyle → Option IntervalAndTimeout → Option IntervalAndTimeout
pulled_by None numbers = None
pulled_by (Some styles.Pull) numbers = numbers
pulled_by (Some styles.Push) numbers = None
pulled_by (Some styles.NotMonitored) numbers = None

abbrev pub monitored_by : Option Levels → Option IntervalAndTimeout
monitored_by None = None
monitored_by (Some levels) =
    pulled_by (monitoring_style (effective (levels_of levels) names.FaultMonitoringStyle))
    (interval_and_timeout (effective (levels_of levels) names.FaultMonitoringIntervalAndTimeout))

abbrev pub monitored : World → ScriptGroup → Option IntervalAndTimeout
monitored w g = monitored_by (group_of w.settings.groups g.id.0)

-- ---- members

-- a member is watched by these numbers, and no other host is
abbrev pub watched_of : List ℕ → Option IntervalAndTimeout → ℕ → Option Watched → Option Watched
watched_of members None host was = None
watched_of members (Some n) host was = if is_member host members then Some (numbered was n.interval.0 n.timeout.0) else None

abbrev pub watched_at : Watches → ℕ → List ℕ → Option IntervalAndTimeout → ℕ → Watches
watched_at watch group members numbers host =
    with_member watch group host (watched_of members numbers host (member_at watch group host))

unfoldable pub watched_at_all : Watches → ℕ → List ℕ → Option IntervalAndTimeout → List ℕ → Watches
watched_at_all watch group members numbers [] = watch
watched_at_all watch group members numbers (host ∷ hosts) =
    watched_at_all (watched_at watch group members numbers host) group members numbers hosts

-- of each host that there can be
abbrev pub watching : Watches → ℕ → List ℕ → Option IntervalAndTimeout → Watches
watching watch group members numbers = watched_at_all watch group members numbers (range_with_len 0 HOST_LIMIT)

-- whom the monitor is to ask, in order of joining
abbrev pub is_due_in : World → ℕ → ℕ → Bool
is_due_in w group host = if_watched is_due (member_at w.watch group host) w.clock

abbrev pub due : World → ScriptGroup → List ℕ
due w g = filter (is_due_in w g.id.0) (members_of g)

-- who hasn't answered in time. What is watched stays so until the group is polled again, also where its style is
-- another now.
abbrev pub is_overdue_in : World → ℕ → ℕ → Bool
is_overdue_in w group host = if_watched is_overdue (member_at w.watch group host) w.clock

abbrev pub overdue : World → ScriptGroup → List ℕ
overdue w g = filter (is_overdue_in w g.id.0) (members_of g)
