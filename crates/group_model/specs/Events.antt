-- What an event makes of a group: a turn of its one host.
use Rattle.std.specs.Prelude.{ℕ, Bool, true, false, if◌then◌else◌}
use Rattle.ft_base.specs.Machine.{Machine}
use Rattle.ft_base.specs.declared.decisions.Decision.{Decision}
use Rattle.ft_base.specs.declared.decisions.Decision.TheVariants as decisions
use Rattle.group_model.specs.declared.changes.ManageFault.{ManageFault}
use Rattle.group_model.specs.declared.changes.ManageFault.TheVariants as manage_faults
use Rattle.group_model.specs.declared.events.Event.{Event}
use Rattle.group_model.specs.declared.events.Event.TheVariants as events
use Rattle.group_model.specs.declared.events.GroupAnswer.{GroupAnswer}
use Rattle.group_model.specs.declared.events.GroupAnswer.TheVariants as answers
use Rattle.group_model.specs.Plain.{Common, Host, Group, blank, put}
use Rattle.group_model.specs.Turns.{Turn, unchanged}
use Rattle.group_model.specs.Serving.{on_request}
use Rattle.group_model.specs.Transfers.{on_view, on_state, on_update, on_order, on_checkpoint, on_send_update}
use Rattle.group_model.specs.Changes.{on_manage, host_of_change}

-- a down host loses what comes to it
abbrev pub if_up : Common → Host → Turn → Turn
if_up c h turn = if h.up then turn else unchanged c h answers.Down

-- a host that stops forgets everything; one that starts again knows nothing yet
abbrev pub on_crash : Common → Turn
on_crash c = unchanged c (blank false) answers.Down

abbrev pub on_restart : Common → Host → Turn
on_restart c h = unchanged c (record h { up = true }) answers.Up

-- the host at which an event is
abbrev pub host_of : Event → ℕ
host_of (events.Request host clock asked stop) = host.0
host_of (events.View host sent) = host.0
host_of (events.State host position state) = host.0
host_of (events.Update host from to update) = host.0
host_of (events.Order host index request) = host.0
host_of (events.Crash host) = host.0
host_of (events.Restart host) = host.0
host_of (events.Checkpoint host clock) = host.0
host_of (events.SendUpdate host) = host.0
host_of (events.Manage change) = (host_of_change change).0

-- its turn, where the log's next write fails or doesn't
abbrev pub turn : Machine → Common → Host → Event → Bool → Turn
turn m c h (events.Request host clock asked stop) fails = if_up c h (on_request m c h host.0 clock.0 asked stop fails)
turn m c h (events.View host sent) fails = if_up c h (on_view c h sent.0)
turn m c h (events.State host position state) fails = if_up c h (on_state c h position)
turn m c h (events.Update host from to update) fails = if_up c h (on_update c h from to)
turn m c h (events.Order host index request) fails = if_up c h (on_order c h index)
turn m c h (events.Checkpoint host clock) fails = if_up c h (on_checkpoint m c h host.0 clock.0 fails)
turn m c h (events.SendUpdate host) fails = if_up c h (on_send_update m c h host.0)
turn m c h (events.Manage change) fails = on_manage c h change fails
turn m c h (events.Crash host) fails = on_crash c
turn m c h (events.Restart host) fails = on_restart c h

abbrev pub turn_of : Machine → Group → Event → Bool → Turn
turn_of m g e fails = turn m g.common (g.hosts (host_of e)) e fails

-- the group after an event: its host is changed, and what the hosts share
abbrev pub after_event : Machine → Group → Event → Bool → Group
after_event m g e fails =
    let t = turn_of m g e fails in record { common = t.common; hosts = put g.hosts (host_of e) t.host }

-- ---- where the log's next write failed, as an answer shows it

abbrev pub is_log_fault : Decision → Bool
is_log_fault (decisions.Append i) = false
is_log_fault (decisions.Repeat i) = false
is_log_fault (decisions.Expired expiration now) = false
is_log_fault (decisions.Other i) = false
is_log_fault (decisions.Full limit) = false
is_log_fault decisions.LogFault = true
is_log_fault (decisions.Newer asked newest) = false
is_log_fault (decisions.Empty version) = false
is_log_fault (decisions.Older asked known) = false
is_log_fault (decisions.Stranger version) = false
is_log_fault (decisions.Backup version) = false
is_log_fault (decisions.Deposed known newest) = false
is_log_fault decisions.BadOperation = false
is_log_fault (decisions.Marshal place) = false
is_log_fault (decisions.Long n) = false
is_log_fault (decisions.Context id) = false

abbrev pub is_fault_of_log : ManageFault → Bool
is_fault_of_log manage_faults.ObjectGroupNotFound = false
is_fault_of_log (manage_faults.NoFactory host) = false
is_fault_of_log (manage_faults.MemberAlreadyPresent host) = false
is_fault_of_log (manage_faults.ObjectNotAdded limit) = false
is_fault_of_log (manage_faults.ObjectNotCreated host) = false
is_fault_of_log manage_faults.BadReplicationStyle = false
is_fault_of_log (manage_faults.MemberNotFound host) = false
is_fault_of_log (manage_faults.PrimaryNotSet host) = false
is_fault_of_log (manage_faults.ViewsFull limit) = false
is_fault_of_log manage_faults.LogFault = true
is_fault_of_log manage_faults.NoMemory = false

abbrev pub shows_fault : GroupAnswer → Bool
shows_fault (answers.Reply decision answer out) = is_log_fault decision
shows_fault (answers.Known version) = false
shows_fault (answers.Applied n) = false
shows_fault (answers.Held n) = false
shows_fault (answers.Ignored cause) = false
shows_fault (answers.Taken from position out) = false
shows_fault (answers.Changed view out) = false
shows_fault (answers.Refused fault) = is_fault_of_log fault
shows_fault answers.LogFault = true
shows_fault answers.Down = false
shows_fault answers.Up = false
shows_fault answers.NoMemory = false
