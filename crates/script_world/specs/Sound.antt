-- What every world keeps.
use Rattle.std.specs.Prelude.{◌≡◌, ℕ, ◌+◌, ◌*◌, ◌<◌, ◌≤◌, nat_eq, List, length, slice_get, Option, Some, None}
use Rattle.std.specs.List.{AllByRecursion, IsDistinct}
use Rattle.std.specs.Map.{keys_of}
use Rattle.ft_base.specs.declared.limits.TheConstants.{HOST_LIMIT}
use Rattle.group_model.specs.declared.events.Out.{Out}
use Rattle.group_model.specs.Sending.{brought}
use Rattle.property_manager.specs.Groups.{group_of}
use Rattle.script_clients.specs.Clients.{Client}
use Rattle.script_groups.specs.Acting.{AreKept, IsSoundGroup, MayCome}
use Rattle.script_groups.specs.Groups.{ScriptGroup, Placed, group_numbered}
use Rattle.script_world.specs.declared.hosts.HostState.{HostState}
use Rattle.script_world.specs.declared.limits.TheConstants.{BYTE_LIMIT, GROUP_LIMIT}
use Rattle.script_world.specs.declared.messages.Message.{Message}
use Rattle.script_world.specs.declared.messages.Message.TheVariants as messages
use Rattle.script_world.specs.World.{World}

-- what was sent may come to its group still
abbrev pub MayComeTo : Option (Placed ScriptGroup) → Out → Type 0
MayComeTo None out = ⊥
MayComeTo (Some g) out = MayCome g.value (brought out)

-- a message may come: a request to a host that there can be, what a group sent to its host
abbrev pub IsOnItsWay : List ScriptGroup → Message → Type 0
IsOnItsWay groups (messages.Request client host attempt) = host.0 < HOST_LIMIT
IsOnItsWay groups (messages.Reply reply) = Unit {0}
IsOnItsWay groups (messages.Carried group out) = MayComeTo (group_numbered groups group.0) out
IsOnItsWay groups (messages.Ping group host) = Unit {0}
IsOnItsWay groups (messages.Pong group host) = Unit {0}

-- the group with number N is the N-th
abbrev pub AreInOrder : List ScriptGroup → Type 0
AreInOrder groups = (i : ℕ) (g : ScriptGroup) → slice_get groups i ≡ Some g → g.id.0 ≡ i + 1

pub record IsSound (w : World) : Type 0 where
  pub few_hosts : length w.hosts ≤ HOST_LIMIT
  pub few_groups : length w.groups ≤ GROUP_LIMIT
  pub behind : AllByRecursion (λ (h : HostState). h.clock ≤ w.clock) w.hosts
  pub groups : AllByRecursion IsSoundGroup w.groups
  pub ordered : AreInOrder w.groups
  pub on_their_way : AllByRecursion (IsOnItsWay w.groups) w.messages
  -- nothing is set for a group that wasn't made yet
  pub fresh : (n : ℕ) → length w.groups < n → group_of w.settings.groups n ≡ None
  -- each group that is there takes what is set once
  pub once : IsDistinct nat_eq (keys_of w.settings.groups)
  pub few_bytes : w.bytes ≤ BYTE_LIMIT + 1

-- memory was not wanted in any of its groups
abbrev pub IsKeptWorld : World → Type 0
IsKeptWorld w = AreKept w.groups

-- a world that has acted so many lines at most: each adds less than 2^32 to the clock, and begins at most one
-- invocation
pub record HasActed (w : World) (lines : ℕ) : Type 0 where
  pub clock : w.clock ≤ 4294967296 * lines
  pub started : AllByRecursion (λ (c : Client). (c.started ≤ lines) × (c.numbered ≤ lines)) w.clients
