-- What each line does.
use Rattle.fault_script.specs.declared.lines.Line.{Line}
use Rattle.fault_script.specs.declared.lines.Line.TheVariants as lines
use Rattle.ft_world.specs.Clients.{call_line}
use Rattle.ft_world.specs.Retrying.{bind_line, timeout_line}
use Rattle.ft_world.specs.Delivering.{deliver_line}
use Rattle.world_management.specs.Hosts.{change_line, crash_line, restart_line, show_line}
use Rattle.ft_world.specs.Links.{inject_line}
use Rattle.world_management.specs.Creating.{create_line, delete_line, grow_line}
use Rattle.world_management.specs.Properties.{get_group_line, get_line, set_group_line, set_line, unset_line}
use Rattle.world_management.specs.Reading.{id_line, locations_line, member_line, ref_line}
use Rattle.world_management.specs.Making.{client_line, group_line, hosts_line, tick_line}
use Rattle.script_world.specs.World.{World}
use Rattle.world_monitors.specs.Polling.{poll_line}
use Rattle.world_monitors.specs.Subscribing.{pull_line, subscribe_line, unsubscribe_line}
use Rattle.world_monitors.specs.Sweeping.{sweep_line}
use Rattle.world_transfers.specs.Transfers.{checkpoint_line, logfail_line, update_line}
use Rattle.world_turns.specs.Turns.{Turn, judged}

-- before its totals are judged
abbrev pub act_first : World → Line → Turn
act_first w (lines.Hosts count) = hosts_line w count
act_first w (lines.Group name kind style members) = group_line w name kind style members
act_first w (lines.Create name kind criteria) = create_line w name kind criteria
act_first w (lines.Delete name) = delete_line w name
act_first w (lines.Set level property) = set_line w level property
act_first w (lines.SetGroup group property) = set_group_line w group property
act_first w (lines.Unset level name) = unset_line w level name
act_first w (lines.Get level name) = get_line w level name
act_first w (lines.GetGroup group name) = get_group_line w group name
act_first w (lines.Client name) = client_line w name
act_first w (lines.Call client group op words) = call_line w client group op words
act_first w (lines.Bind client group) = bind_line w client group
act_first w (lines.Timeout client) = timeout_line w client
act_first w (lines.Deliver number stop) = deliver_line w number stop
act_first w (lines.Tick ticks) = tick_line w ticks
act_first w (lines.Show name) = show_line w name
act_first w (lines.Locations name) = locations_line w name
act_first w (lines.Id name) = id_line w name
act_first w (lines.Ref name) = ref_line w name
act_first w (lines.MemberRef group host) = member_line w group host
act_first w (lines.Inject host bytes) = inject_line w host bytes
act_first w (lines.Change change group host) = change_line w change group host
act_first w (lines.Grow group host) = grow_line w group host
act_first w (lines.Crash host) = crash_line w host
act_first w (lines.Restart host) = restart_line w host
act_first w (lines.Poll name) = poll_line w name
act_first w (lines.Sweep name) = sweep_line w name
act_first w (lines.Subscribe subscriber filter) = subscribe_line w subscriber filter
act_first w (lines.Unsubscribe subscriber) = unsubscribe_line w subscriber
act_first w (lines.Pull subscriber) = pull_line w subscriber
act_first w (lines.Checkpoint name) = checkpoint_line w name
act_first w (lines.Update name) = update_line w name
act_first w (lines.LogFail name) = logfail_line w name

abbrev pub act : World → Line → Turn
act w line = judged (act_first w line)
