-- The world of a script: its clock, hosts, groups, clients, messages, properties, monitor and subscribers, and the
-- small changes of it.
use Rattle.std.specs.Prelude.{ℕ, ◌+◌, ◌-◌, ◌++◌, ◌==◌, Bool, true, false, nat_le, nat_lt, if◌then◌else◌, List, [], ◌∷◌, length, map, replicate, slice_get, slice_set, Option, Some, None, is_none}
use Rattle.std.specs.List.{list_any}
use Rattle.std.specs.Str.{bytes_eq}
use Rattle.ft_base.specs.declared.numbers.GroupId.{GroupId}
use Rattle.fault_notifier.specs.declared.events.FaultEvent.{FaultEvent}
use Rattle.group_model.specs.declared.events.Event.{Event}
use Rattle.group_model.specs.declared.events.Out.{Out}
use Rattle.property_manager.specs.declared.settings.Property.{Property}
use Rattle.property_manager.specs.Groups.{Settings, dropped, group_of, nothing_set, put_group, taken}
use Rattle.script_clients.specs.Clients.{Client}
use Rattle.script_groups.specs.Groups.{ScriptGroup, Placed, acted, all_acted, failing, found}
use Rattle.script_monitor.specs.Watches.{Watches, nobody}
use Rattle.script_subscribers.specs.Subscribers.{Subscriber, Subscribers, nobody_listens, told}
use Rattle.script_world.specs.declared.hosts.HostState.{HostState}
use Rattle.script_world.specs.declared.limits.TheConstants.{BYTE_LIMIT}
use Rattle.script_world.specs.declared.messages.Message.{Message}
use Rattle.script_world.specs.declared.messages.Message.TheVariants as messages
use Rattle.shipped_servants.specs.Kinds.{type_id}

pub record World : Type 0 where
  pub clock : ℕ
  -- by number
  pub hosts : List HostState
  -- all that were ever made
  pub groups : List ScriptGroup
  pub clients : List Client
  -- all messages that were ever sent; message K is the K-th
  pub messages : List Message
  -- what is set for all groups, by type, and for each group that is there
  pub settings : Settings
  -- whom the monitor watches, and what it heard of them
  pub watch : Watches
  -- who is told of faults
  pub subscribers : Subscribers
  -- the bytes in messages, counted up to one more than there can be
  pub bytes : ℕ

abbrev pub empty : World
empty = record {
  clock = 0;
  hosts = [];
  groups = [];
  clients = [];
  messages = [];
  settings = nothing_set;
  watch = nobody;
  subscribers = nobody_listens;
  bytes = 0;
}

-- ---- what is there

abbrev pub is_there : World → ℕ → Bool
is_there w host = nat_lt host (length w.hosts)

-- a host that isn't there is down
abbrev pub up_of : Option HostState → Bool
up_of None = false
up_of (Some h) = h.up

abbrev pub is_up : World → ℕ → Bool
is_up w host = up_of (slice_get w.hosts host)

abbrev pub clock_of : Option HostState → ℕ
clock_of None = 0
clock_of (Some h) = h.clock

abbrev pub host_clock : World → ℕ → ℕ
host_clock w host = clock_of (slice_get w.hosts host)

abbrev pub client_named : World → List ℕ → Option (Placed Client)
client_named w name = found (λ (c : Client). bytes_eq c.name name) 0 w.clients

-- a group, a client or a subscriber was made with this name
abbrev pub is_named : World → List ℕ → Bool
is_named w name =
    if list_any (λ (g : ScriptGroup). bytes_eq g.name name) w.groups then true
    else (if list_any (λ (c : Client). bytes_eq c.name name) w.clients then true
    else list_any (λ (s : Subscriber). bytes_eq s.name name) w.subscribers.all)

-- a group is there until it is deleted: as long as the manager of properties has it
abbrev pub is_deleted : World → ScriptGroup → Bool
is_deleted w g = is_none (group_of w.settings.groups g.id.0)

abbrev pub message_numbered : World → ℕ → Option Message
message_numbered w k = if k == 0 then None else slice_get w.messages (k - 1)

-- ---- changes

abbrev pub with_event : World → ℕ → ScriptGroup → Event → World
with_event w place g e = record w { groups = slice_set w.groups place (acted g e) }

-- the next write of this group's log fails
abbrev pub with_failing : World → ℕ → ScriptGroup → World
with_failing w place g = record w { groups = slice_set w.groups place (failing g) }

abbrev pub with_client : World → ℕ → Client → World
with_client w place c = record w { clients = slice_set w.clients place c }

-- what a group sent, on its way
abbrev pub carried : GroupId → Out → Message
carried group out = messages.Carried group out

abbrev pub with_messages : World → List Message → World
with_messages w more = record w { messages = w.messages ++ more }

-- a host in another state, of which every group hears by this event
abbrev pub with_host : World → ℕ → HostState → Event → World
with_host w host state e = record w { hosts = slice_set w.hosts host state; groups = all_acted e w.groups }

-- a host of a script that just began
abbrev pub fresh_host : HostState
fresh_host = record { up = true; clock = 0 }

abbrev pub with_hosts : World → ℕ → World
with_hosts w count = record w { hosts = replicate count fresh_host }

-- what is set is this now
abbrev pub with_settings : World → Settings → World
with_settings w s = record w { settings = s }

-- a group takes what is set for all and for its kind, and its criteria
abbrev pub adopted : Settings → ScriptGroup → List Property → Settings
adopted s g criteria = record s { groups = put_group s.groups g.id.0 (taken s (type_id g.kind) criteria) }

abbrev pub with_group : World → ScriptGroup → List Property → World
with_group w g criteria = record w { groups = w.groups ++ g ∷ []; settings = adopted w.settings g criteria }

abbrev pub forgotten : Settings → ScriptGroup → Settings
forgotten s g = record s { groups = dropped s.groups g.id.0 }

-- a group that is deleted stays among all that were made
abbrev pub without_group : World → ScriptGroup → World
without_group w g = with_settings w (forgotten w.settings g)

abbrev pub with_one_client : World → Client → World
with_one_client w c = record w { clients = w.clients ++ c ∷ [] }

-- the clock of a host that is down stands still
abbrev pub ticked : ℕ → HostState → HostState
ticked ticks h = if h.up then record h { clock = h.clock + ticks } else h

abbrev pub passed : World → ℕ → World
passed w ticks = record w { clock = w.clock + ticks; hosts = map (ticked ticks) w.hosts }

-- what the monitor heard is this now
abbrev pub with_watch : World → Watches → World
with_watch w watch = record w { watch = watch }

abbrev pub with_subscribers : World → Subscribers → World
with_subscribers w s = record w { subscribers = s }

-- a fault was reported, and all whom it concerns are told
abbrev pub with_fault : World → FaultEvent → World
with_fault w event = with_subscribers w (told w.subscribers event)

abbrev pub at_most_one_past : ℕ → ℕ
at_most_one_past bytes = if nat_le bytes BYTE_LIMIT then bytes else BYTE_LIMIT + 1

-- so many bytes more were sent in messages
abbrev pub counted : World → ℕ → World
counted w bytes = record w { bytes = at_most_one_past (w.bytes + bytes) }
